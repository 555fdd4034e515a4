-- A question with repeats, and the question with its list superseded (document 02, S-4).
--
-- superseded_nodes vs bs, superseded_labels vs bs == the list "after superseding": each node once, with the label of its
--   last entry, rising
-- supersede t c == the call c with its list superseded, where it is a Start whose list passes 12 to 14 at stage t
-- superseded_calls r cs == the calls cs, from record r on, each changed by supersede
-- superseded_record r == the record r with its list superseded
use Rattle.std.specs.Prelude.{ℕ, cond, List, [], ◌∷◌, eqb}
use Rattle.formats.specs.Checks.{first_no, list_checks}
use Rattle.changes.specs.Entries.{entries, nodes_listed, labels_listed, superseded}
use Rattle.model.specs.Calls.{Call, load, start, advance, cancel, read}
use Rattle.model.specs.Refusals.{Stage}
use Rattle.model.specs.Model.{Record, stage_of, act}

abbrev pub superseded_nodes : List ℕ → List ℕ → List ℕ
superseded_nodes vs bs = nodes_listed (superseded (entries vs bs))

abbrev pub superseded_labels : List ℕ → List ℕ → List ℕ
superseded_labels vs bs = labels_listed (superseded (entries vs bs))

-- checks 12 to 14 are made on the list as listed: one that is refused stays as it is
abbrev pub supersede : Stage → Call → Call
supersede t (load x) = load x
supersede t (start x vs bs) =
    cond (eqb (first_no (list_checks t.sizes.n t.sizes.k vs bs)) 0)
    (start x (superseded_nodes vs bs) (superseded_labels vs bs))
    (start x vs bs)
supersede t (advance x) = advance x
supersede t cancel = cancel
supersede t read = read

unfoldable pub superseded_calls : Record → List Call → List Call
superseded_calls r [] = []
superseded_calls r (c ∷ cs) = supersede (stage_of r) c ∷ superseded_calls (act r c).record' cs

abbrev pub superseded_record : Record → Record
superseded_record r = record {
  phase = r.phase;
  sizes = r.sizes;
  nodes = superseded_nodes r.nodes r.labels;
  labels = superseded_labels r.nodes r.labels;
  roots = r.roots;
  states = r.states;
  links = r.links;
  passed = r.passed;
  yes = r.yes;
  last = r.last;
}
