-- What is left to the program has its properties.
--     refused-unchanged    a refusal, 18 too, leaves the record as it is
--     start-usable         positive control: what an advance asks of usable tables holds after an accepted Start
--     advance-numbers      18 is no number of an advance's checks: it is left to the program
--     advance-properties   advance
use Prim.Native.Nat.{ℕ, zero, suc, ◌+◌, ◌≤◌, ◌<◌}
use mathlib.Core.Path.{◌≡◌, refl, sym, ap, ap₂, ◌∙◌, subst}
use mathlib.Core.Bool.{Bool, true, false, cond}
use mathlib.Core.List.{List, [], ◌∷◌, ◌++◌}
use mathlib.Core.Option.{Option, none, some}
use native.Mathlib.Omega.{arith}
use lib.Dec.{eqb}
use lib.ListN.{length, get_or, take}
use Rattle.trees.proofs.MoveLaws.{none-some}
use Rattle.list_laws.specs.Tests.{all_below, same_list}
use Rattle.formats.specs.Checks.{check, first_no}
use Rattle.list_laws.proofs.BoolLaws.{and_both, true-false}
use Rattle.list_laws.proofs.TestLaws.{same_list-refl}
use Rattle.tables.specs.declared.answers.Reached.{Reached}
use Rattle.questions.specs.ready.Parts.{Part, part_of}
use Rattle.tables.proofs.ClimbBounds.{Bounded}
use Rattle.questions.proofs.PartBounds.{part-bounded}
use Rattle.questions.proofs.PartRange.{part-out-of-range}
use Rattle.formats.specs.Inputs.{Inputs, inputs_of, same_node_inputs, used_node_table, names_sizes, node_table_built, states_below}
use Rattle.model.specs.Calls.{Call, load, start, advance, cancel, read, refused, more, finished, Phase}
use Rattle.model.specs.Refusals.{refusal}
use Rattle.model.specs.Model.{Record, stage_of, acted, left_within, roots_in, started, stepped, advance_with, part_next, marks_by}
use Rattle.model.specs.Model.{proceeds, unless, act}
use Rattle.questions.specs.PartInputs.{view_by, given_of, SettledInputs}
use Rattle.model.specs.LeftOpen.{Usable, rule_gives, AdvanceProperties}
use Rattle.model.proofs.Facts.{Handled}
use Rattle.model.proofs.LayersHold.{layers}
use Rattle.model.proofs.ModelLaws.{some_root, start-list, start-built, advance-fits}
use Rattle.questions.proofs.PartListLaws.{length-states}

-- "a refusal alters nothing"
pub refused-unchanged : (r : Record) (c : Call) (n : ℕ) → (act r c).answer ≡ refused n → (act r c).record' ≡ r
unfolding act unless proceeds advance_with
refused-unchanged r c n = go (refusal (stage_of r) c) c
  where
    either : (b : Bool) (f g : Record) → (cond b (acted finished f) (acted more g)).answer
        ≡ refused n → (cond b (acted finished f) (acted more g)).record' ≡ r
    either true f g e = absurd (let z : ◌≡◌ {A = ℕ} 0 1 = cc in omega arith)
    either false f g e = absurd (let z : ◌≡◌ {A = ℕ} 0 1 = cc in omega arith)

    advanced-keeps : (x : Inputs) (o : Option Reached) → (advance_with r x o).answer ≡ refused n → (advance_with r x o).record' ≡ r
    advanced-keeps x none e = refl
    advanced-keeps x (some y) e =
        either (eqb (suc (length r.states)) (length r.roots))
        (stepped r Phase.answered y (eqb (get_or (marks_by r.sizes x) y.state 0) 1)) (stepped r Phase.running y false) e

    go : (k : ℕ) (c : Call) → (unless k r c).answer ≡ refused n → (unless k r c).record' ≡ r
    go (suc k) c e = refl
    go zero (load x) e = absurd (let z : ◌≡◌ {A = ℕ} 0 1 = cc in omega arith)
    go zero (start x vs bs) e = absurd (let z : ◌≡◌ {A = ℕ} 0 1 = cc in omega arith)
    go zero (advance x) e = advanced-keeps x (part_next r x) e
    go zero cancel e = absurd (let z : ◌≡◌ {A = ℕ} 0 1 = cc in omega arith)
    go zero read e = refl

-- ---- Start

-- after an accepted Start, the same plan, rules and node table with any bytes below S are usable: the premise of `rule` can be met
pub start-usable : (r : Record) (x : Inputs) (vs bs other : List ℕ) → refusal (stage_of r) (start x vs bs) ≡ 0
    → states_below r.sizes (inputs_of x.plan x.rules x.node_table other) ≡ true
    → Usable (act r (start x vs bs)).record' (inputs_of x.plan x.rules x.node_table other) []
unfolding act unless proceeds started all_below node_table_built names_sizes
start-usable r x vs bs other e b =
    rw e
    (record {
      node_table = start-built (stage_of r) x vs bs e;
      state_table = b;
      listed = start-list (stage_of r) x vs bs e;
      left = left_within x vs bs;
      ready = refl;
      before = refl;
      states = refl;
      below = refl;
      next = some_root x (left_within x vs bs);
    })

-- ---- advance

-- 18 is none of the numbers of the checks
advance-numbers : (a b : Bool) → first_no (check 1 a ∷ check 17 b ∷ []) ≡ 18 → ⊥
unfolding first_no
advance-numbers false b i = omega (arith, i)
advance-numbers true false i = omega (arith, i)
advance-numbers true true i = omega (arith, i)

module _ (r : Record) (x : Inputs) where
  -- on usable tables the part that comes next is the rule's
  by-rule : (ps : List Part) → refusal (stage_of r) (advance x) ≡ 0 → Usable r x ps → part_next r x ≡ some (rule_gives r x ps)
  unfolding part_of same_node_inputs given_of
  by-rule ps e U =
      let n : length ps ≡ length r.states = sym (length-states ps) ∙ ap length U.states in
      let F : SettledInputs r.sizes x r.nodes r.labels x = record {
        built = U.node_table;
        same = and_both (same_list x.plan x.plan) _ (same_list-refl x.plan)
            (and_both (same_list x.rules x.rules) _ (same_list-refl x.rules) (same_list-refl (used_node_table r.sizes x)));
        below = U.state_table;
        room = advance-fits (stage_of r) x e;
        listed = U.listed;
      } in
      let H : Handled r.sizes.s (roots_in x U.left) ps = record {
        nodes = U.before ∙ ap₂ (λ (i : ℕ) (l : List ℕ). take i l) (sym n) U.ready;
        states = subst (λ (l : List ℕ). all_below r.sizes.s l ≡ true) (sym U.states) U.below;
      } in
      let l : length ps < length (roots_in x U.left) = omega (arith, n, U.next, ap length U.ready) in
      rw (← U.states, U.ready, length-states ps) (layers.part-built r.sizes x r.nodes r.labels x U.left ps F H l)

  bounded : (y : Reached) → part_next r x ≡ some y → Bounded (view_by r.sizes x) y
  bounded y e =
      part-bounded (view_by r.sizes x) (take (length r.states) r.roots) r.states r.nodes r.labels
      (get_or r.roots (length r.states) 0) y e

  -- what holds of the record after the last part and after another
  either : (y : Reached) (P : Record → Type 0) → P (stepped r Phase.answered y (eqb (get_or (marks_by r.sizes x) y.state 0) 1))
      → P (stepped r Phase.running y false) → P (advance_with r x (some y)).record'
  unfolding advance_with
  either y P p q = go (eqb (suc (length r.states)) (length r.roots))
    where
      go : (b : Bool)
          → P (cond b (acted finished (stepped r Phase.answered y (eqb (get_or (marks_by r.sizes x) y.state 0) 1)))
          (acted more (stepped r Phase.running y false))).record'
      go true = p
      go false = q

  -- a part that is handled is not refused
  accepted-not : (y : Reached) → (advance_with r x (some y)).answer ≡ refused 18 → ⊥
  unfolding advance_with
  accepted-not y = go (eqb (suc (length r.states)) (length r.roots))
    where
      go : (b : Bool) → (cond b (acted finished (stepped r Phase.answered y (eqb (get_or (marks_by r.sizes x) y.state 0) 1)))
          (acted more (stepped r Phase.running y false))).answer ≡ refused 18 → ⊥
      go true e = let z : ◌≡◌ {A = ℕ} 0 1 = cc in omega arith
      go false e = let z : ◌≡◌ {A = ℕ} 0 1 = cc in omega arith

  -- the next root is a node
  abbrev NextInside : Type 0
  NextInside = refusal (stage_of r) (advance x) ≡ 0 → get_or r.roots (length r.states) 0 < r.sizes.n

  after : NextInside → refusal (stage_of r) (advance x) ≡ 0 → (o : Option Reached) → part_next r x ≡ o
      → AdvanceProperties r x (advance_with r x o).answer (advance_with r x o).record'
  unfolding advance_with stepped
  after h e none q = record {
    stored = λ f. absurd (true-false f);
    counted = λ f. absurd (true-false f);
    links_passed = λ f. absurd (true-false f);
    passed_most = λ f. absurd (true-false f);
    out_of_range = λ w. part-out-of-range (view_by r.sizes x) r.states r.nodes r.labels (take (length r.states) r.roots)
        (get_or r.roots (length r.states) 0) (h e) q;
    rule = λ ps f U. absurd (none-some (sym q ∙ by-rule ps e U));
  }
  after h e (some y) q =
      let b = bounded y q in
      let l : r.links + y.links ≤ r.links + r.sizes.n = omega (arith, b.links) in
      let d : r.links + y.links + r.passed ≤ r.passed + y.passed + r.links = omega (arith, b.links_passed) in
      record {
        stored = λ f. (y.state, either y (λ (t : Record). t.states ≡ r.states ++ (y.state ∷ [])) refl refl, b.state);
        counted = λ f. either y (λ (t : Record). t.links ≤ r.links + r.sizes.n) l l;
        links_passed = λ f. either y (λ (t : Record). t.links + r.passed ≤ t.passed + r.links) d d;
        passed_most = λ f m g.
            let k : r.passed + y.passed ≤ r.passed + m = omega (arith, b.passed m g) in
            either y (λ (t : Record). t.passed ≤ r.passed + m) k k;
        out_of_range = λ w. absurd (accepted-not y w);
        rule = λ ps f U.
            let i : some y ≡ some (rule_gives r x ps) = sym q ∙ by-rule ps e U in
            (ap (λ (o : Option Reached). (advance_with r x o).answer) i, ap (λ (o : Option Reached). (advance_with r x o).record') i);
      }

  advance-not-18 : refusal (stage_of r) (advance x) ≡ 18 → ⊥
  unfolding refusal
  advance-not-18 i = advance-numbers _ _ i

  pub advance-properties : NextInside → AdvanceProperties r x (act r (advance x)).answer (act r (advance x)).record'
  unfolding act unless proceeds
  advance-properties h = go (refusal (stage_of r) (advance x)) refl
    where
      go : (n : ℕ) → refusal (stage_of r) (advance x) ≡ n
          → AdvanceProperties r x (unless n r (advance x)).answer (unless n r (advance x)).record'
      go zero e = after h e (part_next r x) refl
      go (suc n) e = record {
        stored = λ f. absurd (true-false f);
        counted = λ f. absurd (true-false f);
        links_passed = λ f. absurd (true-false f);
        passed_most = λ f. absurd (true-false f);
        out_of_range = λ w. absurd (advance-not-18 (e ∙ (let z : suc n ≡ 18 = cc in z)));
        rule = λ ps f U. absurd (omega (arith, f, e));
      }
