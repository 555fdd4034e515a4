-- The clearing states: from the two passes to the whole buffer, and the call's answers.
--     parts-list                    where the pass down ends, the buffer begins with the clearing states
--     done_refused, done-written    the promise
use Prim.Native.Nat.{ℕ, ◌*◌}
use mathlib.Core.Path.{◌≡◌, refl, sym, ap, ◌∙◌}
use mathlib.Core.List.{List, ◌++◌}
use native.Mathlib.Omega.{arith}
use lib.ListN.{length, drop}
use Rattle.trees.specs.Tree.{size}
use Rattle.formats.specs.Plan.{node_count, labels_within, kinds_in, plan_tree}
use Rattle.formats.specs.Rules.{state_count, label_count, leaf_states, inner_states, rule_marks, rule_automaton}
use Rattle.formats.specs.Checks.{first_no}
use Rattle.formats.specs.Passing.{PlanPasses}
use Rattle.formats.specs.Refusals.{refusal_number, answer_number}
use Rattle.formats.specs.declared.refusals.Refusal.{Refusal}
use Rattle.formats.proofs.RefusalLaws.{handed-on, number-not-0}
use Rattle.std.specs.Prelude.{Result, IsErrAnd}
use Rattle.formats.proofs.PlanLaws.{kinds-plan_tree, labels-plan_tree, size-plan_tree}
use Rattle.formats.proofs.InputLaws.{rule-table-passes}
use Rattle.allowed.specs.Clearing.{clearing_set, clearing_sets}
use Rattle.allowed.specs.Answers.{node_room_checks, clearing_over, ClearingDone}
use Rattle.allowed.specs.inner.Inputs.{CallArgs}
use Rattle.allowed.specs.inner.clearing.Down.{SetsDone, SetsWritten}
use Rattle.allowed.proofs.InputsLaws.{kinds_part, labels_part, leaves_part, inner_part, marks_part}
use Rattle.allowed.proofs.InputsLaws.{kinds-is, labels-is, leaves-is, inner-is, marks-is, written-list}

module _ {p r : List ℕ} {n s k m : ℕ} (a : CallArgs p r n s k m) (c : ℕ) (ec : c ≡ s * k * s) where
  pub parts-list : (before after : List ℕ) → length before ≡ m → length after ≡ length before
      → SetsWritten (kinds_part p n) (labels_part p n) (leaves_part r k) (inner_part r k c) (marks_part r k c) s k before after
      → after ≡ clearing_over p r before
  unfolding clearing_sets
  parts-list before after em el D =
      let h : PlanPasses p = (rule-table-passes p r a.passed).0 in
      let E : SetsWritten (kinds_in p) (labels_within p) (leaf_states r) (inner_states r) (rule_marks r) (state_count r) (label_count r) before after =
      rw (← kinds-is a c ec, ← labels-is a c ec, ← leaves-is a c ec, ← inner-is a c ec, ← marks-is a c ec, ← a.states_are, ← a.labels_are) D in
      let z : size (plan_tree p) ≡ node_count p = size-plan_tree p h in
      let F : SetsDone (rule_automaton r) (plan_tree p) before after =
      E (plan_tree p) (kinds-plan_tree p h) (labels-plan_tree p h) in
      written-list (size (plan_tree p)) (clearing_set (rule_automaton r) (plan_tree p)) before after
      F.sets F.kept el (omega (arith, z, a.room, a.nodes_are))
      ∙ ap (λ (i : ℕ). clearing_sets (rule_automaton r) (plan_tree p) ++ drop i before) z

-- ---- the call's answers

module _ (p r before : List ℕ) where
  -- a is what `?` hands on of a check's refusal x
  pub done_refused : (x : Refusal) (a : Result Unit Refusal) → IsErrAnd a (λ e. e ≡ x)
      → refusal_number x ≡ first_no (node_room_checks p r (length before)) → ClearingDone p r before (answer_number a) before
  done_refused x a h e =
      let z : answer_number a ≡ refusal_number x = handed-on x a h in
      record { number = z ∙ e; written = λ w. absurd (number-not-0 x (sym z ∙ w)); kept = λ _. refl }

  pub done-written : (after : List ℕ) → first_no (node_room_checks p r (length before)) ≡ 0 → after ≡ clearing_over p r before
      → ClearingDone p r before 0 after
  done-written after e w = record { number = sym e; written = λ _. w; kept = λ h. absurd (h refl) }
