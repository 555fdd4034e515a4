-- Start on record and reference model: its checks settle it, 18 too.
--     some-part        a question has a part
--     on-start         Start's answer conforms, and record and reference model stay related
use Prim.Native.Nat.{ℕ, ◌<◌}
use mathlib.Core.Path.{◌≡◌, refl}
use mathlib.Core.Bool.{true}
use mathlib.Core.List.{List, []}
use Rattle.list_laws.specs.Tests.{all_below}
use Rattle.list_laws.proofs.BoolLaws.{and_right}
use Rattle.questions.specs.ready.Parts.{parts_from, all_links, all_passed}
use Rattle.formats.specs.Inputs.{Inputs, Sizes, node_table_built, state_table_built, sound}
use Rattle.model.specs.Calls.{start}
use Rattle.model.specs.Refusals.{refusal}
use Rattle.model.specs.Model.{Record, with_last, left_within, roots_in, started, proceeds}
use Rattle.model.proofs.ModelLaws.{some_root, start-list, start-sound, start-built}
use Rattle.reference.specs.Reference.{Question, State, Reference, stage_of, phase, in_state, left_of, part_count, proceed, asked, starting}
use Rattle.reference.proofs.Relation.{Parted, Rel}
use Rattle.reference.proofs.Simulation.{Sim, reference_of, Simulates, by-refusal, does}

-- there is always a part: the plan's root
pub some-part : (q : Question) → 0 < part_count q
some-part q = some_root q.inputs (left_of q)

module _ (r : Record) (b : Reference) (x : Inputs) (vs bs : List ℕ) (i : Rel r b)
    (h : refusal (stage_of b) (start x vs bs) ≡ 0) where
  abbrev z : Sizes
  z = b.sizes

  abbrev begun : Record
  begun = with_last r.last (started r.sizes vs bs (roots_in x (left_within x vs bs)))

  parted-first : Parted begun z (asked x vs bs) []
  unfolding started all_below
  parted-first = record {
    built = start-built (stage_of b) x vs bs h;
    nodes = refl;
    labels = refl;
    roots = refl;
    states = refl;
    listed = start-list (stage_of b) x vs bs h;
    handled = record { nodes = refl; states = refl };
  }

  states-built : state_table_built z x ≡ true
  unfolding sound
  states-built = and_right (node_table_built z x) (state_table_built z x) (start-sound (stage_of b) x vs bs h)

  related : Rel begun (reference_of (State.running (asked x vs bs)) z b.last)
  unfolding started phase parts_from all_links all_passed
  related = record {
    phases = refl;
    sizes = i.sizes;
    holds = (
      (record { parted = parted-first; links = refl; passed = refl; count = refl }, record { state_table = states-built; replayed = refl }),
      some-part (asked x vs bs),
    );
    lasts = i.lasts;
  }

  start-at : Sim (proceed b b.state (start x vs bs)) (proceeds r (start x vs bs))
  unfolding proceed starting in_state proceeds
  start-at = (refl, related)

pub on-start : (x : Inputs) (vs bs : List ℕ) → Simulates (start x vs bs)
on-start x vs bs r r' b a i d =
    does r r' b (start x vs bs) a d
    (by-refusal r b (start x vs bs) i (start-at r b x vs bs i))
