-- Plans and branch tables that pass 2 to 11, and what is handed on of them.
--     part-args                  N, S and K as read
--     length-built_steps          the length of the table of a branch table
--     parts-filled               labels, kinds and steps, as parts, are what the writers need
--     parts-written              what the writers leave is what the build has to write
--     parts-in                 what the comparisons return is what the full check has to return
use Prim.Native.Nat.{ℕ, ◌+◌, ◌-◌, ◌*◌, ◌≤◌}
use mathlib.Core.Path.{◌≡◌, sym, ap, ◌∙◌}
use mathlib.Core.Bool.{Bool, true}
use mathlib.Core.List.{List, ◌++◌}
use native.Mathlib.Omega.{arith}
use lib.ListN.{length, take, drop}
use Rattle.trees.specs.Tree.{Tree, size}
use Rattle.trees.specs.Automaton.{WordAutomaton}
use Rattle.trees.specs.Tables.{node_table_of, branch_row, branch_table_of}
use Rattle.list_laws.proofs.RowLaws.{length-rows}
use Rattle.trees.proofs.TableRows.{length-branch_row}
use Rattle.list_laws.specs.Tests.{all_below}
use Rattle.formats.specs.Plan.{node_count, labels_within, kinds_in, plan_tree}
use Rattle.formats.specs.Rules.{state_count, label_count, branch_steps, branch_marks, word_automaton, branch_automaton}
use Rattle.formats.specs.Checks.{first_no, branch_build_checks, node_table_length, state_table_length}
use Rattle.formats.specs.Built.{built_node_table, built_branch_table}
use Rattle.formats.proofs.PlanLaws.{length-labels_within, kinds-plan_tree, labels-plan_tree, size-plan_tree}
use Rattle.formats.specs.Passing.{PlanPasses}
use Rattle.formats.proofs.PlanLaws.{labels-part, kinds-part}
use Rattle.formats.proofs.BranchLaws.{BranchPasses, length-branch_steps, step_below, steps-part}
use Rattle.formats.proofs.InputLaws.{branch-build-passes, label_below}
use Rattle.tables.proofs.node_tables.CellLaws.{length-node_table_of}
use Rattle.tables.specs.Answers.{same_tables}
use Rattle.branches.specs.inner.BranchTests.{TablesTested}
use Rattle.branches.specs.inner.Filled.{FillArgs, TablesFilled, BranchFilled, PartArgs, BranchWritten}

pub length-branch_table : (B : WordAutomaton) (t : Tree) → length (branch_table_of B t) ≡ size t * (B.states + 1)
unfolding branch_table_of
length-branch_table B t = length-rows (size t) (B.states + 1) (branch_row B t) (λ v h. length-branch_row B t v)

pub length-built_steps : (p r : List ℕ) → PlanPasses p
    → length (built_branch_table p r) ≡ state_table_length (node_count p) (state_count r)
length-built_steps p r h =
    length-branch_table (branch_automaton r) (plan_tree p) ∙ ap (λ (n : ℕ). n * (state_count r + 1)) (size-plan_tree p h)

-- what the checks say of inputs that pass
abbrev pub Accepted : List ℕ → List ℕ → ℕ → ℕ → Type 0
Accepted p r l m =
    PlanPasses p × BranchPasses r × (all_below (label_count r) (labels_within p) ≡ true) × (node_table_length (node_count p) ≤ l)
    × (state_table_length (node_count p) (state_count r) ≤ m)

module _ (p r : List ℕ) (l m : ℕ) (ok : first_no (branch_build_checks p r l m) ≡ 0) where
  pub accepted : Accepted p r l m
  accepted = branch-build-passes p r l m ok

  pub part-args : (n s k : ℕ) → n ≡ node_count p → s ≡ state_count r → k ≡ label_count r → PartArgs p r n s k l m
  part-args n s k a b c = record {
    passed = ok;
    nodes = a;
    states = b;
    labels = c;
    plan_exact = rw a accepted.0.exact;
    branch_exact = rw (b, c) accepted.1.exact;
  }

  runs-filled : FillArgs (labels_within p) (kinds_in p) (branch_steps r) (state_count r) (label_count r)
      (length (labels_within p)) l m
  runs-filled =
      let A : Accepted p r l m = accepted in
      let z : length (labels_within p) ≡ node_count p = length-labels_within p A.0 in
      record {
        tree = plan_tree p;
        kinds = kinds-plan_tree p A.0;
        labels = labels-plan_tree p A.0;
        count = size-plan_tree p A.0 ∙ sym z;
        most = rw z A.0.most;
        few = A.1.states_most;
        node_table_room = rw z A.3;
        room = rw z A.4;
        steps_room = omega (arith, length-branch_steps r A.1);
        steps_below = step_below r A.1;
        labels_below = label_below p r A.1.labels_least A.2;
      }

filled-same : {st st' : List ℕ} {s s' k k' : ℕ} (mk : List ℕ) (t : Tree) (node_table state_table node_table' state_table' : List ℕ) → st ≡ st'
    → s ≡ s'
    → k ≡ k' → TablesFilled st s k mk t node_table state_table node_table' state_table' → TablesFilled st' s' k' mk t node_table state_table node_table' state_table'
filled-same mk t node_table state_table node_table' state_table' a b c F = rw (← a, ← b, ← c) F

answer-same : {st st' : List ℕ} {s s' k k' : ℕ} (mk : List ℕ) (t : Tree) (node_table b : List ℕ) (x : Bool) → st ≡ st'
    → s ≡ s' → k ≡ k'
    → x ≡ same_tables (node_table_of t) (branch_table_of (word_automaton s k st mk) t) node_table b
    → x ≡ same_tables (node_table_of t) (branch_table_of (word_automaton s' k' st' mk) t) node_table b
answer-same mk t node_table b x a d c F = rw (← a, ← d, ← c) F

module _ (p r : List ℕ) (n s k l m : ℕ) (args : PartArgs p r n s k l m) where
  labels-is : take (12 + n - 12) (drop 12 p) ≡ labels_within p
  labels-is = labels-part p n args.nodes

  kinds-is : take (length p - (12 + n)) (drop (12 + n) p) ≡ kinds_in p
  kinds-is = kinds-part p n (accepted p r l m args.passed).0 args.nodes

  steps-is : take (16 + s * k - 16) (drop 16 r) ≡ branch_steps r
  steps-is = steps-part r s k args.states args.labels

  pub parts-filled : FillArgs (take (12 + n - 12) (drop 12 p)) (take (length p - (12 + n)) (drop (12 + n) p))
      (take (16 + s * k - 16) (drop 16 r)) s k (length (take (12 + n - 12) (drop 12 p))) l m
  parts-filled = rw (labels-is, kinds-is, steps-is, args.states, args.labels) (runs-filled p r l m args.passed)

  pub parts-written : (node_table state_table node_table' state_table' : List ℕ)
      → BranchFilled (take (12 + n - 12) (drop 12 p)) (take (length p - (12 + n)) (drop (12 + n) p))
      (take (16 + s * k - 16) (drop 16 r)) s k node_table state_table node_table' state_table'
      → BranchWritten p r node_table state_table node_table' state_table'
  parts-written node_table state_table node_table' state_table' F =
      let P : PlanPasses p = (accepted p r l m args.passed).0 in
      let t : Tree = plan_tree p in
      let G : TablesFilled (branch_steps r) (state_count r) (label_count r) (branch_marks r) t node_table state_table node_table' state_table' =
      filled-same (branch_marks r) t node_table state_table node_table' state_table' steps-is args.states args.labels
      (F (branch_marks r) t (kinds-plan_tree p P ∙ sym kinds-is) (labels-plan_tree p P ∙ sym labels-is)) in
      record {
        links = G.links ∙ ap (λ (i : ℕ). built_node_table p ++ drop i node_table) (sym (length-node_table_of t));
        states = G.states ∙ ap (λ (i : ℕ). built_branch_table p r ++ drop i state_table)
            (sym (length-branch_table (branch_automaton r) t));
      }

  pub parts-in : (node_table b : List ℕ) (x : Bool)
      → TablesTested (take (12 + n - 12) (drop 12 p)) (take (length p - (12 + n)) (drop (12 + n) p))
      (take (16 + s * k - 16) (drop 16 r)) s k node_table b x
      → x ≡ same_tables (built_node_table p) (built_branch_table p r) node_table b
  parts-in node_table b x F =
      let P : PlanPasses p = (accepted p r l m args.passed).0 in
      answer-same (branch_marks r) (plan_tree p) node_table b x steps-is args.states args.labels
      (F (branch_marks r) (plan_tree p) (kinds-plan_tree p P ∙ sym kinds-is) (labels-plan_tree p P ∙ sym labels-is))
