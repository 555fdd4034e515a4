-- The masks: from the two passes to the whole buffer, and the call's answers.
--     root-args, root-down, ready   the root's set, and where the pass down begins
--     parts-list                    where it ends, the buffer begins with the allowed labels
--     done_refused, done-written    the promise
use Prim.Native.Nat.{ℕ, ◌+◌, ◌-◌, ◌*◌, ◌≤◌, ◌<◌}
use mathlib.Core.Path.{◌≡◌, refl, sym, ap, ◌∙◌, subst}
use mathlib.Core.List.{List, [], ◌++◌}
use native.Mathlib.Decide.{ℕ_discrete}
use native.Mathlib.Omega.{arith}
use lib.ListN.{length, get_or, drop}
use lib.Seq.{get_or-set_same, get_or-set_other}
use Rattle.trees.specs.Tree.{Tree, kinds_of, labels_of, size}
use Rattle.trees.specs.Numbering.{sub}
use Rattle.trees.proofs.NodeLaws.{sub-size, up, size-pos}
use Rattle.trees.proofs.PostorderLaws.{postorder-tree, size_of, some_node}
use Rattle.formats.specs.Plan.{node_count, labels_within, kinds_in, plan_tree}
use Rattle.formats.specs.Rules.{state_count, label_count, leaf_states, inner_states, rule_marks, tree_automaton, rule_automaton}
use Rattle.formats.specs.Checks.{first_no}
use Rattle.formats.specs.Passing.{PlanPasses}
use Rattle.formats.specs.Refusals.{refusal_number, answer_number}
use Rattle.formats.specs.declared.refusals.Refusal.{Refusal}
use Rattle.formats.proofs.RefusalLaws.{handed-on, number-not-0}
use Rattle.std.specs.Prelude.{Result, IsErrAnd}
use Rattle.formats.proofs.PlanLaws.{kinds-plan_tree, labels-plan_tree, size-plan_tree}
use Rattle.formats.proofs.InputLaws.{rule-table-passes}
use Rattle.allowed.specs.Allowed.{allowed_set, allowed_sets}
use Rattle.allowed.specs.Answers.{node_room_checks, allowed_over, AllowedDone}
use Rattle.allowed.specs.inner.Inputs.{PassArgs, MarksGiven, CallArgs}
use Rattle.allowed.specs.inner.Sets.{marked_set}
use Rattle.allowed.specs.inner.masks.Up.{UpDone, UpWritten}
use Rattle.allowed.specs.inner.masks.Down.{full_cell, DownDone, DownWritten}
use Rattle.allowed.specs.inner.masks.Root.{root_set, RootArgs}
use Rattle.allowed.proofs.StepLaws.{run_below, mark-args, marked-states}
use Rattle.allowed.proofs.InputsLaws.{kinds_part, labels_part, leaves_part, inner_part, marks_part}
use Rattle.allowed.proofs.InputsLaws.{kinds-is, labels-is, leaves-is, inner-is, marks-is, written-list}

-- ---- the root

module _ (ks ls lv inn mk : List ℕ) (s k : ℕ) (G : PassArgs ks ls lv inn s k) (M : MarksGiven mk s) where
  module _ (b₀ b : List ℕ) (up_done : UpWritten ks ls lv inn s k (length ks) b₀ b) (room : length ks ≤ length b) where
    pub root-args : RootArgs b mk s (length ks - 1)
    root-args =
        let T : (t : Tree) × (kinds_of t ≡ ks) × (labels_of t ≡ ls) = postorder-tree ks ls G.count G.postorder in
        let t : Tree = T.0 in
        let n : length ks ≡ size t = size_of t ks T.1 in
        let pos : 0 < length ks = some_node ks G.postorder in
        let c = (up_done [] t T.1 T.2).cells (length ks - 1) (omega arith) in
        record {
          inside = omega arith;
          low = omega (
            arith,
            c,
            sub-size t (length ks - 1) (omega arith),
            G.most,
            run_below ks ls lv inn s k G [] (sub t (length ks - 1)),
            G.few,
          );
          marks = mark-args mk s G.few M;
        }

    pub root-down : DownWritten ks ls lv inn mk s k (length ks) b₀ (root_set b mk s (length ks - 1))
    unfolding root_set
    root-down t x y =
        let n : length ks ≡ size t = size_of t ks x in
        let U : UpDone (tree_automaton s k lv inn mk) t (length ks) b₀ b = up_done mk t x y in
        let pos : 0 < size t = size-pos t in
        let v : ℕ = length ks - 1 in
        let w : ℕ = get_or b (length ks - 1) 0 + 1048576 * marked_set mk s in
        let e : get_or b (length ks - 1) 0 + 1048576 * marked_set mk s
        ≡ full_cell (tree_automaton s k lv inn mk) t (length ks - 1) =
        omega (arith, U.cells (length ks - 1) (omega arith), marked-states ks ls lv inn s k G mk t x y (length ks - 1) (omega arith)) in
        record {
          done = λ u l g. absurd (omega arith);
          given = λ u l g. elim (ℕ_discrete u (length ks - 1)) [
            | yes q ↦ rw q (get_or-set_same b (length ks - 1) w 0 (omega arith) ∙ e)
            | no q ↦ absurd (let r : u + 1 < size t = omega arith in omega (arith, g r, (up t u r).below))
          ];
          plain = λ u l r g. get_or-set_other b (length ks - 1) u w 0 (omega arith) ∙ U.cells u l;
          kept = λ j l. get_or-set_other b (length ks - 1) j w 0 (omega arith) ∙ U.kept j (omega arith);
        }

    -- the same where the code has written it
    pub ready : (after : List ℕ) → after ≡ root_set b mk s (length ks - 1) → DownWritten ks ls lv inn mk s k (length ks) b₀ after
    ready after e = subst (DownWritten ks ls lv inn mk s k (length ks) b₀) (sym e) root-down

-- ---- the whole buffer

module _ {p r : List ℕ} {n s k m : ℕ} (a : CallArgs p r n s k m) (c : ℕ) (ec : c ≡ s * k * s) where
  pub parts-list : (before after : List ℕ) → length before ≡ m → length after ≡ length before
      → DownWritten (kinds_part p n) (labels_part p n) (leaves_part r k) (inner_part r k c) (marks_part r k c) s k 0 before after
      → after ≡ allowed_over p r before
  unfolding allowed_sets
  parts-list before after em el D =
      let h : PlanPasses p = (rule-table-passes p r a.passed).0 in
      let E : DownWritten (kinds_in p) (labels_within p) (leaf_states r) (inner_states r) (rule_marks r) (state_count r) (label_count r) 0 before after =
      rw (← kinds-is a c ec, ← labels-is a c ec, ← leaves-is a c ec, ← inner-is a c ec, ← marks-is a c ec, ← a.states_are, ← a.labels_are) D in
      let z : size (plan_tree p) ≡ node_count p = size-plan_tree p h in
      let F : DownDone (rule_automaton r) (label_count r) (plan_tree p) 0 before after =
      E (plan_tree p) (kinds-plan_tree p h) (labels-plan_tree p h) in
      written-list (size (plan_tree p)) (allowed_set (rule_automaton r) (label_count r) (plan_tree p)) before after
      (λ j l. F.done j (omega arith) l) F.kept el (omega (arith, z, a.room, a.nodes_are))
      ∙ ap (λ (i : ℕ). allowed_sets (rule_automaton r) (label_count r) (plan_tree p) ++ drop i before) z

-- ---- the call's answers

module _ (p r before : List ℕ) where
  -- a is what `?` hands on of a check's refusal x
  pub done_refused : (x : Refusal) (a : Result Unit Refusal) → IsErrAnd a (λ e. e ≡ x)
      → refusal_number x ≡ first_no (node_room_checks p r (length before)) → AllowedDone p r before (answer_number a) before
  done_refused x a h e =
      let z : answer_number a ≡ refusal_number x = handed-on x a h in
      record { number = z ∙ e; written = λ w. absurd (number-not-0 x (sym z ∙ w)); kept = λ _. refl }

  pub done-written : (after : List ℕ) → first_no (node_room_checks p r (length before)) ≡ 0 → after ≡ allowed_over p r before
      → AllowedDone p r before 0 after
  done-written after e w = record { number = sym e; written = λ _. w; kept = λ h. absurd (h refl) }
