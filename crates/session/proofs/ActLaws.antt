-- Every record that a call leaves is a session's.
--     listed_of, holds-valid     a record that holds has lists that fit the arrays, and its struct passes its conditions
--     Narrow r c                 what call c finds on record r passed over at most 65,535 nodes
--     act-holds                  what holds of a record holds of the record after such a call
--     act-valid                  so the struct after it passes
--     act-shaped, act-record     and after every call it has the layout's lengths, and that record
use Prim.Native.Nat.{ℕ, zero, suc, ◌+◌, ◌-◌, ◌*◌, ◌≤◌, ◌<◌}
use mathlib.Core.Path.{◌≡◌, refl, sym, ap, ◌∙◌, subst}
use mathlib.Core.Bool.{Bool, true, false, not, cond, ◌&&◌}
use mathlib.Core.List.{List, [], ◌∷◌, ◌++◌}
use mathlib.Core.Option.{Option, none, some}
use native.Mathlib.Omega.{arith}
use lib.Dec.{leb, ltb, eqb}
use lib.ListN.{length, get_or, length-append, replicate, get_or-append}
use borrow.Author.Tests.{le-leb, lt-ltb, ltb-true, eq-eqb, eqb-true, eqb-false}
use Rattle.list_laws.specs.Tests.{all_below}
use Rattle.list_laws.proofs.BoolLaws.{and_both, and_left, and_right, true-false}
use Rattle.formats.proofs.CheckLaws.{first_no-head, first_no-tail}
use Rattle.formats.proofs.InputLaws.{ListPasses, list-passes, build-passes}
use Rattle.tables.specs.declared.answers.Reached.{Reached}
use Rattle.tables.proofs.ClimbBounds.{Bounded}
use Rattle.questions.specs.Rising.{RisesTo}
use Rattle.questions.specs.Promises.{RootsAre}
use Rattle.questions.proofs.PartBounds.{part-bounded}
use Rattle.formats.specs.Inputs.{Inputs, Sizes, sizes_in}
use Rattle.model.specs.Calls as calls
use Rattle.model.specs.Calls.{Call, load, start, advance, cancel, read, may_load, may_start, is_running}
use Rattle.model.specs.Refusals.{refusal}
use Rattle.model.specs.Model.{stage_of, Record, idle, fresh_record, loaded_record, with_last, last_of, marks_by, left_within}
use Rattle.questions.specs.PartInputs.{view_by}
use Rattle.model.specs.Model.{roots_in, started}
use Rattle.model.specs.Model.{stepped, advance_with, part_next, acted, proceeds, unless, act}
use Rattle.model.proofs.ModelLaws.{some_root, left_below, left-most, start-list, start-built}
use Rattle.model.proofs.LayersHold.{layers}
use Rattle.questions.proofs.PartListLaws.{below_more}
use Rattle.session.specs.declared.state.Phase.TheVariants.{Empty}
use Rattle.session.specs.declared.state.Session.{Session}
use Rattle.session.specs.Records.{phase_to, record_of, session_of, padded, zero_from, rises_to}
use Rattle.session.specs.Records.{sizes_fit, no_question, list_fits, parts_fit, question_fits, valid_in, valid}
use Rattle.session.specs.Records.{last_is_own}
use Rattle.session.specs.inner.Shapes.{Shaped}
use Rattle.session.proofs.PadLaws.{take-padded, take-padded-by, zero-padded, zero-padded-by, zero-replicate}
use Rattle.session.proofs.RecordLaws.{Listed, record-of-struct, struct-shaped}
use Rattle.session.proofs.LastLaws.{last-is, last-append, none-yes, last-yes, flag-yes}
use Rattle.session.proofs.Holds.{Sized, Asked, Going, Ended, HoldsIn, Holds, holds_of, last_fits}

-- ---- the struct of a record that holds

module _ (r : Record) where
  listed-some : Asked r → length r.states ≤ length r.roots → Listed r
  listed-some A h =
      record { few = A.few; same = A.same; few_parts = A.few_parts; few_handled = omega (arith, A.few_parts) }

  listed_in : (p : calls.Phase) → HoldsIn p r → Listed r
  unfolding fresh_record idle
  listed_in calls.Phase.empty e =
      subst (λ (t : Record). Listed t) (sym e)
      (record { few = omega arith; same = refl; few_parts = omega arith; few_handled = omega arith })
  listed_in calls.Phase.loaded e =
      subst (λ (t : Record). Listed t) (sym e.2)
      (record { few = omega arith; same = refl; few_parts = omega arith; few_handled = omega arith })
  listed_in calls.Phase.running G = listed-some G.asked (omega (arith, G.handled))
  listed_in calls.Phase.answered E = listed-some E.asked (omega (arith, E.handled))

  pub listed_of : Holds r → Listed r
  listed_of H = listed_in r.phase H

  within_both : (low high x : ℕ) → low ≤ x → x ≤ high → (leb low x && leb x high) ≡ true
  within_both low high x h k = and_both (leb low x) (leb x high) (le-leb low x h) (le-leb x high k)

  sizes-yes : Sized r.sizes → sizes_fit (session_of r).head.sizes ≡ true
  unfolding sizes_fit session_of
  sizes-yes z =
      and_both _ _ (within_both 1 65535 r.sizes.n z.nodes-least z.nodes_most)
      (and_both _ _ (within_both 1 16 r.sizes.s z.states-least z.states_most)
      (within_both 1 64 r.sizes.k z.labels_least z.labels_most))

  list-yes : Asked r → list_fits (session_of r) ≡ true
  unfolding list_fits session_of
  list-yes A =
      and_both _ _ (le-leb (length r.nodes) 64 A.few)
      (and_both _ _ (ap (all_below r.sizes.n) (take-padded 64 r.nodes) ∙ A.nodes-below)
      (and_both _ _ (ap (all_below r.sizes.k) (take-padded-by 64 r.labels (length r.nodes) A.same) ∙ A.labels_below)
      (and_both _ _ (zero-padded 64 r.nodes) (zero-padded-by 64 r.labels (length r.nodes) A.same))))

  parts-yes : Asked r → parts_fit (session_of r) ≡ true
  unfolding parts_fit session_of
  parts-yes A =
      and_both _ _ (within_both 1 254 (length r.roots) A.some-part A.few_parts)
      (and_both _ _ (ap (rises_to (r.sizes.n - 1)) (take-padded 254 r.roots) ∙ A.rises)
      (and_both _ _ (zero-padded 254 r.roots)
      (and_both _ _ (ap (all_below r.sizes.s) (take-padded 254 r.states) ∙ A.states_below)
      (and_both _ _ (zero-padded 254 r.states)
      (and_both _ _ (le-leb r.links r.passed A.links_passed)
      (le-leb r.passed (65535 * length r.states) A.few-passed))))))

  question-yes : Sized r.sizes → Asked r → length r.states ≤ length r.roots → question_fits (session_of r) ≡ true
  unfolding question_fits session_of
  question-yes z A h =
      and_both _ _ (sizes-yes z)
      (and_both _ _ (list-yes A) (and_both _ _ (parts-yes A) (le-leb (length r.states) (length r.roots) h)))

idle-yes : (p : calls.Phase) (z : Sizes) (o : Option calls.Outcome) → no_question (session_of (with_last o (idle p z))) ≡ true
unfolding no_question session_of idle zero_from
idle-yes p z o =
    let a : all_below 1 (padded 64 []) ≡ true = zero-replicate 64 in
    let b : all_below 1 (padded 254 []) ≡ true = zero-replicate 254 in
    rw (a, b)

-- the last state of a list, where the test reads it in the array
last-at : (l : List ℕ) → 1 ≤ length l → get_or (padded 254 l) (length l - 1) 0 ≡ last_of l 0
last-at l h =
    get_or-append l (replicate (254 - length l) 0) 0 (length l - 1) (omega arith) ∙ sym (last-is l 0 (length l - 1) (omega arith))

module _ (r : Record) where
  own-yes : Ended r → last_is_own (session_of r) ≡ true
  unfolding last_is_own session_of
  own-yes E =
      let h : 1 ≤ length r.states = omega (arith, E.handled, E.asked.some-part) in
      let k : length r.states ≤ 254 = omega (arith, E.handled, E.asked.few_parts) in
      rw E.own
      (and_both _ _ (within_both r 1 254 (length r.states) h k)
      (and_both _ _ (eq-eqb (last_of r.states 0) _ (sym (last-at r.states h)))
      (and_both _ _ (flag-yes r.yes)
      (and_both _ _ (eq-eqb (length r.roots) (length r.roots) refl)
      (and_both _ _ (eq-eqb r.links r.links refl) (eq-eqb r.passed r.passed refl))))))

  valid-in : (p : calls.Phase) → HoldsIn p r → valid_in (phase_to p) (session_of r) ≡ true
  unfolding phase_to valid_in fresh_record session_of idle
  valid-in calls.Phase.empty e = subst (λ (t : Record). valid_in Empty (session_of t) ≡ true) (sym e)
      (and_both _ _ none-yes (idle-yes calls.Phase.empty (record { n = 0; s = 0; k = 0 }) none))
  valid-in calls.Phase.loaded e =
      and_both _ _ (sizes-yes r e.0)
      (and_both _ _ (last-yes r.sizes.s r.last e.1)
      (subst (λ (t : Record). no_question (session_of t) ≡ true) (sym e.2) (idle-yes calls.Phase.loaded r.sizes r.last)))
  valid-in calls.Phase.running G =
      and_both _ _ (question-yes r G.sizes G.asked (omega (arith, G.handled)))
      (and_both _ _ (last-yes r.sizes.s r.last G.last)
      (and_both _ _ (lt-ltb (length r.states) (length r.roots) G.handled) (ap not G.no-yes)))
  valid-in calls.Phase.answered E =
      and_both _ _ (question-yes r E.sizes E.asked (omega (arith, E.handled)))
      (and_both _ _ (own-yes E) (eq-eqb (length r.states) (length r.roots) E.handled))

  pub holds-valid : Holds r → valid (session_of r) ≡ true
  unfolding valid session_of
  holds-valid H = valid-in r.phase H

-- ---- the record after a call

rises-is : (e : ℕ) (l : List ℕ) → RisesTo e l → rises_to e l ≡ true
unfolding rises_to
rises-is e [] t = absurd t
rises-is e (x ∷ []) t = eq-eqb x e t
rises-is e (x ∷ y ∷ l) t = and_both (ltb x y) (rises_to e (y ∷ l)) (lt-ltb x y t.0) (rises-is e (y ∷ l) t.1)

-- a list that rises to e is nowhere above it
pub rises-below : (e : ℕ) (l : List ℕ) (i : ℕ) → rises_to e l ≡ true → i < length l → get_or l i 0 ≤ e
unfolding rises_to
rises-below e [] i r h = absurd (omega arith)
rises-below e (x ∷ []) zero r h = omega (arith, eqb-true x e r)
rises-below e (x ∷ []) (suc i) r h = absurd (omega arith)
rises-below e (x ∷ y ∷ l) zero r h =
    let a : x < y = ltb-true x y (and_left (ltb x y) (rises_to e (y ∷ l)) r) in
    omega (arith, rises-below e (y ∷ l) zero (and_right (ltb x y) (rises_to e (y ∷ l)) r) (omega arith))
rises-below e (x ∷ y ∷ l) (suc i) r h = rises-below e (y ∷ l) i (and_right (ltb x y) (rises_to e (y ∷ l)) r) (omega arith)

nil-below : (n : ℕ) → all_below n [] ≡ true
unfolding all_below
nil-below n = refl

-- at most 254 roots for a list of at most 64
pub few-roots : (n m : ℕ) (l : List ℕ) → RootsAre n m l → m ≤ 64 → length l ≤ 254
few-roots n zero l R h = omega (arith, R.one refl)
few-roots n (suc m) l R h = omega (arith, R.few (omega arith))

-- one state more
pub start-sized : (p : calls.Phase) (r : Record) → may_start p ≡ true → HoldsIn p r → Sized r.sizes
unfolding may_start
start-sized calls.Phase.empty r e H = absurd (true-false (sym e))
start-sized calls.Phase.loaded r e H = H.0
start-sized calls.Phase.running r e H = absurd (true-false (sym e))
start-sized calls.Phase.answered r e H = H.sizes

pub running-is : (p : calls.Phase) (r : Record) → is_running p ≡ true → HoldsIn p r → Going r
unfolding is_running
running-is calls.Phase.empty r e H = absurd (true-false (sym e))
running-is calls.Phase.loaded r e H = absurd (true-false (sym e))
running-is calls.Phase.running r e H = H
running-is calls.Phase.answered r e H = absurd (true-false (sym e))

-- what an advance finds passed over at most 65,535 nodes: so where the node table's numbers have 16 bits
abbrev pub Narrow : Record → Call → Type 0
Narrow r (load x) = Unit {0}
Narrow r (start x vs bs) = Unit {0}
Narrow r (advance x) = (y : Reached) → part_next r x ≡ some y → y.passed ≤ 65535
Narrow r cancel = Unit {0}
Narrow r read = Unit {0}

module _ (r : Record) (H : Holds r) where
  load-holds : (x : Inputs) → refusal (stage_of r) (load x) ≡ 0 → Holds (loaded_record (sizes_in x))
  unfolding refusal idle
  load-holds x e =
      let b = build-passes x.plan x.rules (length x.node_table) (length x.state_table)
      (first_no-tail 1 (may_load r.phase) _ (omega arith) e) in (
        record {
          nodes-least = b.0.least;
          nodes_most = b.0.most;
          states-least = b.1.states-least;
          states_most = b.1.states_most;
          labels_least = b.1.labels_least;
          labels_most = b.1.labels_most;
        },
        tt,
        refl,
      )

  module _ (x : Inputs) (vs bs : List ℕ) (e : refusal (stage_of r) (start x vs bs) ≡ 0) where
    list-is : ListPasses r.sizes.n r.sizes.k vs bs
    list-is = list-passes r.sizes.n r.sizes.k vs bs (start-list (stage_of r) x vs bs e)

    sized-is : Sized r.sizes
    unfolding refusal
    sized-is = start-sized r.phase r (first_no-head 1 (may_start r.phase) _ (omega arith) e) H

    -- the nodes that are left in W
    abbrev left : List ℕ
    left = left_within x vs bs

    start-holds : Holds (with_last r.last (started r.sizes vs bs (roots_in x left)))
    unfolding started
    start-holds =
        let L = start-list (stage_of r) x vs bs e in
        let R : RootsAre r.sizes.n (length left) (roots_in x left) =
        layers.roots-are r.sizes x left (start-built (stage_of r) x vs bs e) (left_below x r.sizes.n r.sizes.k vs bs L) in
        record {
          sizes = sized-is;
          asked = record {
            few = list-is.most;
            same = sym list-is.lengths;
            nodes-below = list-is.nodes-below;
            labels_below = list-is.labels_below;
            some-part = omega (arith, some_root x left);
            few_parts = few-roots r.sizes.n (length left) (roots_in x left) R (left-most x r.sizes.n r.sizes.k vs bs L);
            rises = rises-is (r.sizes.n - 1) (roots_in x left) R.to;
            states_below = nil-below r.sizes.s;
            links_passed = omega arith;
            few-passed = omega arith;
          };
          handled = omega (arith, some_root x left);
          no-yes = refl;
          last = last_fits r.phase r H;
        }

  module _ (x : Inputs) (e : refusal (stage_of r) (advance x) ≡ 0) where
    going : Going r
    unfolding refusal
    going = running-is r.phase r (first_no-head 1 (is_running r.phase) _ (omega arith) e) H

    module _ (y : Reached) (q : part_next r x ≡ some y) (narrow : y.passed ≤ 65535) where
      bounded : Bounded (view_by r.sizes x) y
      bounded = part-bounded (view_by r.sizes x) _ _ _ _ _ y q

      stepped-asked : (p : calls.Phase) (b : Bool) → Asked (stepped r p y b)
      unfolding stepped
      stepped-asked p b =
          let A = going.asked in
          let l : length (r.states ++ (y.state ∷ [])) ≡ length r.states + 1 = length-append r.states
          (y.state ∷ []) in
          record {
            few = A.few;
            same = A.same;
            nodes-below = A.nodes-below;
            labels_below = A.labels_below;
            some-part = A.some-part;
            few_parts = A.few_parts;
            rises = A.rises;
            states_below = below_more r.sizes.s r.states y.state A.states_below bounded.state;
            links_passed = omega (arith, A.links_passed, bounded.links_passed);
            few-passed = rw l (omega (arith, A.few-passed, narrow));
          }

      advance-holds : (b : Bool) → eqb (suc (length r.states)) (length r.roots) ≡ b → (w : Bool)
          → Holds (cond b (acted calls.Answer.finished (stepped r calls.Phase.answered y w))
          (acted calls.Answer.more (stepped r calls.Phase.running y false))).record'
      unfolding stepped
      advance-holds true t w =
          let l : length (r.states ++ (y.state ∷ [])) ≡ length r.states + 1 = length-append r.states
          (y.state ∷ []) in
          record {
            sizes = going.sizes;
            asked = stepped-asked calls.Phase.answered w;
            handled = omega (arith, l, eqb-true (suc (length r.states)) (length r.roots) t);
            own = ap (λ (q : ℕ).
                some
                (record { state = q; yes = w; parts = length r.roots; links = r.links + y.links; passed = r.passed + y.passed }))
                (sym (last-append r.states 0 y.state));
          }
      advance-holds false t w =
          let l : length (r.states ++ (y.state ∷ [])) ≡ length r.states + 1 = length-append r.states
          (y.state ∷ []) in
          let n : (suc (length r.states) ≡ length r.roots) → ⊥ = eqb-false (suc (length r.states))
          (length r.roots) t in
          record {
            sizes = going.sizes;
            asked = stepped-asked calls.Phase.running false;
            handled = omega (arith, l, n, going.handled);
            no-yes = refl;
            last = going.last;
          }

    part-holds : Narrow r (advance x) → (o : Option Reached) → part_next r x ≡ o → Holds (advance_with r x o).record'
    unfolding advance_with
    part-holds w none q = H
    part-holds w (some y) q =
        advance-holds y q (w y q) (eqb (suc (length r.states)) (length r.roots)) refl
        (eqb (get_or (marks_by r.sizes x) y.state 0) 1)

  cancel-holds : refusal (stage_of r) cancel ≡ 0 → Holds (with_last r.last (loaded_record r.sizes))
  unfolding refusal idle
  cancel-holds f =
      let G = running-is r.phase r (first_no-head 1 (is_running r.phase) _ (omega arith) f) H in (G.sizes, G.last, refl)

  proceeds-holds : (c : Call) → Narrow r c → refusal (stage_of r) c ≡ 0 → Holds (proceeds r c).record'
  unfolding proceeds
  proceeds-holds (load x) w e = load-holds x e
  proceeds-holds (start x vs bs) w e = start-holds x vs bs e
  proceeds-holds (advance x) w e = part-holds x e w (part_next r x) refl
  proceeds-holds cancel w e = cancel-holds e
  proceeds-holds read w e = H

  pub act-holds : (c : Call) → Narrow r c → Holds (act r c).record'
  unfolding act unless
  act-holds c w = go (refusal (stage_of r) c) refl
    where
      go : (n : ℕ) → refusal (stage_of r) c ≡ n → Holds (unless n r c).record'
      go zero e = proceeds-holds c w e
      go (suc n) e = H

  -- the lists fit after every call, for any numbers in the tables
  part-listed : (x : Inputs) → refusal (stage_of r) (advance x) ≡ 0 → (o : Option Reached) → Listed (advance_with r x o).record'
  unfolding advance_with stepped
  part-listed x e none = listed_of r H
  part-listed x e (some y) = go (eqb (suc (length r.states)) (length r.roots))
    where
      -- in either state
      then : (p : calls.Phase) (b : Bool) → Listed (stepped r p y b)
      then p b =
          let G = going x e in
          let l : length (r.states ++ (y.state ∷ [])) ≡ length r.states + 1 = length-append r.states
          (y.state ∷ []) in
          record {
            few = G.asked.few;
            same = G.asked.same;
            few_parts = G.asked.few_parts;
            few_handled = omega (arith, l, G.handled, G.asked.few_parts);
          }

      go : (b : Bool) → Listed (cond b (acted calls.Answer.finished
          (stepped r calls.Phase.answered y (eqb (get_or (marks_by r.sizes x) y.state 0) 1)))
          (acted calls.Answer.more (stepped r calls.Phase.running y false))).record'
      go true = then calls.Phase.answered (eqb (get_or (marks_by r.sizes x) y.state 0) 1)
      go false = then calls.Phase.running false

  proceeds-listed : (c : Call) → refusal (stage_of r) c ≡ 0 → Listed (proceeds r c).record'
  unfolding proceeds
  proceeds-listed (load x) e = listed_of (loaded_record (sizes_in x)) (load-holds x e)
  proceeds-listed (start x vs bs) e =
      listed_of (with_last r.last (started r.sizes vs bs (roots_in x (left_within x vs bs)))) (start-holds x vs bs e)
  proceeds-listed (advance x) e = part-listed x e (part_next r x)
  proceeds-listed cancel e = listed_of (with_last r.last (loaded_record r.sizes)) (cancel-holds e)
  proceeds-listed read e = listed_of r H

  act-listed : (c : Call) → Listed (act r c).record'
  unfolding act unless
  act-listed c = go (refusal (stage_of r) c) refl
    where
      go : (n : ℕ) → refusal (stage_of r) c ≡ n → Listed (unless n r c).record'
      go zero e = proceeds-listed c e
      go (suc n) e = listed_of r H

-- ---- the struct after a call

module _ (s : Session) (h : Shaped s) (e : valid s ≡ true) (c : Call) where
  pub act-valid : Narrow (record_of s) c → valid (session_of (act (record_of s) c).record') ≡ true
  act-valid w = holds-valid (act (record_of s) c).record' (act-holds (record_of s) (holds_of s h e) c w)

  after : Listed (act (record_of s) c).record'
  after = act-listed (record_of s) (holds_of s h e) c

  pub act-shaped : Shaped (session_of (act (record_of s) c).record')
  act-shaped = struct-shaped (act (record_of s) c).record' after

  pub act-record : record_of (session_of (act (record_of s) c).record') ≡ (act (record_of s) c).record'
  act-record = record-of-struct (act (record_of s) c).record' after
