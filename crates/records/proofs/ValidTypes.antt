-- A struct that passes its conditions is within its types.
--     record-types   of the struct of a record that a session can have
--     valid-types    of a struct with its arrays' lengths that passes its conditions
use Prim.Native.Nat.{ℕ, ◌-◌, ◌≤◌, ◌<◌}
use mathlib.Core.Path.{◌≡◌, refl, sym, subst}
use mathlib.Core.Bool.{true}
use mathlib.Core.Option.{Option, none, some}
use mathlib.Core.List.{List, [], ◌∷◌, ◌++◌}
use native.Mathlib.Omega.{arith}
use lib.Dec.{ltb}
use lib.ListN.{length, get_or, replicate}
use Rattle.list_laws.specs.Tests.{all_below}
use Rattle.list_laws.proofs.BoolLaws.{and_left, and_right, and_both}
use Rattle.list_laws.proofs.TestLaws.{all_below-all, all_below-le, at-all_below}
use Rattle.model.specs.Calls as calls
use Rattle.model.specs.Model.{Record, idle, fresh_record}
use Rattle.session.specs.declared.state.Session.{Session}
use Rattle.session.specs.declared.state.Last.{Last}
use Rattle.session.specs.Records.{session_of, record_of, last_to, padded, valid}
use Rattle.session.specs.inner.Shapes.{Shaped}
use Rattle.session.proofs.PadLaws.{zero-replicate, length-padded}
use Rattle.session.proofs.Holds.{Sized, Asked, Holds, HoldsIn, holds_of, last_fits, struct_is}
use Rattle.session.proofs.LastLaws.{LastFits}
use Rattle.session.proofs.ActLaws.{rises-below}
use Rattle.records.specs.Layout.{InTypes}

append-below : (b : ℕ) (l m : List ℕ) → all_below b l ≡ true → all_below b m ≡ true → all_below b (l ++ m) ≡ true
unfolding all_below
append-below b [] m e f = f
append-below b (x ∷ l) m e f =
    and_both (ltb x b) (all_below b (l ++ m)) (and_left (ltb x b) (all_below b l) e)
    (append-below b l m (and_right (ltb x b) (all_below b l) e) f)

padded-below : (b w : ℕ) (l : List ℕ) → 1 ≤ b → all_below b l ≡ true → (i : ℕ) → get_or (padded w l) i 0 < b
padded-below b w l h e =
    all_below-all b (padded w l)
    (append-below b l (replicate (w - length l) 0) e
    (all_below-le 1 b (replicate (w - length l) 0) h (zero-replicate (w - length l))))
    (omega arith)

-- what the types ask of a record
record Small (r : Record) : Type 0 where
  n-small : r.sizes.n < 65536
  s-small : r.sizes.s < 256
  k-small : r.sizes.k < 256
  few : length r.nodes ≤ 64
  few_labels : length r.labels ≤ 64
  few-roots : length r.roots ≤ 254
  few-states : length r.states ≤ 254
  links-small : r.links < 4294967296
  passed-small : r.passed < 4294967296
  nodes-small : all_below 65536 r.nodes ≡ true
  labels-small : all_below 256 r.labels ≡ true
  roots-small : all_below 65536 r.roots ≡ true
  states-small : all_below 256 r.states ≡ true

-- and of its last finished answer
record LastSmall (l : Last) : Type 0 where
  state-small : l.outcome.state < 256
  parts-small : l.outcome.parts < 256
  links-small : l.outcome.links < 4294967296
  passed-small : l.outcome.passed < 4294967296

last-small : (s : ℕ) (o : Option calls.Outcome) → s < 256 → LastFits s o → LastSmall (last_to o)
last-small s none h f =
    record { state-small = omega arith; parts-small = omega arith; links-small = omega arith; passed-small = omega arith }
last-small s (some o) h f = record {
  state-small = omega (arith, f.state);
  parts-small = omega (arith, f.few_parts);
  links-small = omega (arith, f.few_parts, f.links_passed, f.few-passed);
  passed-small = omega (arith, f.few_parts, f.few-passed);
}

module _ (r : Record) where
  small-types : Small r → LastSmall (last_to r.last) → InTypes (session_of r)
  unfolding session_of
  small-types z l = record {
    n_fits = z.n-small;
    s_fits = z.s-small;
    k_fits = z.k-small;
    m_fits = omega (arith, z.few);
    parts_fit = omega (arith, z.few-roots);
    handled_fits = omega (arith, z.few-states);
    links_fit = z.links-small;
    passed_fits = z.passed-small;
    last_state_fits = l.state-small;
    last_parts_fit = l.parts-small;
    last_links_fit = l.links-small;
    last_passed_fits = l.passed-small;
    nodes_length = length-padded 64 r.nodes z.few;
    labels_length = length-padded 64 r.labels z.few_labels;
    roots_length = length-padded 254 r.roots z.few-roots;
    states_length = length-padded 254 r.states z.few-states;
    nodes_fit = padded-below 65536 64 r.nodes (omega arith) z.nodes-small;
    labels_fit = padded-below 256 64 r.labels (omega arith) z.labels-small;
    roots_fit = padded-below 65536 254 r.roots (omega arith) z.roots-small;
    states_fit = padded-below 256 254 r.states (omega arith) z.states-small;
  }

  asked-small : Sized r.sizes → Asked r → length r.states ≤ length r.roots → Small r
  asked-small z a h = record {
    n-small = omega (arith, z.nodes_most);
    s-small = omega (arith, z.states_most);
    k-small = omega (arith, z.labels_most);
    few = a.few;
    few_labels = omega (arith, a.few, a.same);
    few-roots = a.few_parts;
    few-states = omega (arith, a.few_parts, h);
    links-small = omega (arith, a.links_passed, a.few-passed, a.few_parts, h);
    passed-small = omega (arith, a.few-passed, a.few_parts, h);
    nodes-small = all_below-le r.sizes.n 65536 r.nodes (omega (arith, z.nodes_most)) a.nodes-below;
    labels-small = all_below-le r.sizes.k 256 r.labels (omega (arith, z.labels_most)) a.labels_below;
    roots-small = at-all_below 65536 r.roots (λ j i. omega (arith, z.nodes_most, rises-below (r.sizes.n - 1) r.roots j a.rises i));
    states-small = all_below-le r.sizes.s 256 r.states (omega (arith, z.states_most)) a.states_below;
  }

  small-in : (p : calls.Phase) → HoldsIn p r → Small r
  unfolding fresh_record idle all_below
  small-in calls.Phase.empty e =
      subst (λ (t : Record). Small t) (sym e)
      (record {
        n-small = omega arith;
        s-small = omega arith;
        k-small = omega arith;
        few = omega arith;
        few_labels = omega arith;
        few-roots = omega arith;
        few-states = omega arith;
        links-small = omega arith;
        passed-small = omega arith;
        nodes-small = refl;
        labels-small = refl;
        roots-small = refl;
        states-small = refl;
      })
  small-in calls.Phase.loaded e =
      subst (λ (t : Record). Small t) (sym e.2)
      (record {
        n-small = omega (arith, e.0.nodes_most);
        s-small = omega (arith, e.0.states_most);
        k-small = omega (arith, e.0.labels_most);
        few = omega arith;
        few_labels = omega arith;
        few-roots = omega arith;
        few-states = omega arith;
        links-small = omega arith;
        passed-small = omega arith;
        nodes-small = refl;
        labels-small = refl;
        roots-small = refl;
        states-small = refl;
      })
  small-in calls.Phase.running g = asked-small g.sizes g.asked (omega (arith, g.handled))
  small-in calls.Phase.answered g = asked-small g.sizes g.asked (omega (arith, g.handled))

  pub record-types : Holds r → InTypes (session_of r)
  record-types h =
      let z = small-in r.phase h in
      small-types z (last-small r.sizes.s r.last z.s-small (last_fits r.phase r h))

pub valid-types : (s : Session) → Shaped s → valid s ≡ true → InTypes s
valid-types s h v = subst (λ (t : Session). InTypes t) (struct_is s h v) (record-types (record_of s) (holds_of s h v))
