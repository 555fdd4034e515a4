-- The main theorems of merging (document 02, S-6), each by citing what is below.
--     merged-table-passes    the merged bytes pass 6 to 9 and have S1 × S2 states and the common K
--     merged-table-run       on every plan the merged table's run is the pair of runs, at every node
--     merged-table-clears    it clears exactly the plans that both clear
--     merge-written          accepted, those bytes are at the front of the output, and behind them what was there
--     merge-refused          refused, nothing is written
--     merge-accepted         accepted, both tables pass, K is the same and the product of the counts is at most 16
--     merge-clears           so the bytes written are a table that clears exactly the plans that both clear
--     samples                computed: two small tables merged, and each of 23, 24, 11
-- Plans are trees of labels below K, of any size and depth.
use Prim.Native.Nat.{ℕ, ◌*◌, ◌≤◌}
use mathlib.Core.Path.{◌≡◌, refl, sym, ◌∙◌}
use mathlib.Core.Bool.{◌&&◌}
use mathlib.Core.List.{List, [], ◌∷◌, ◌++◌}
use native.Mathlib.Omega.{arith}
use lib.ListN.{length, drop}
use borrow.Author.Tests.{eqb-true, leb-true}
use Rattle.std.specs.Prelude.{Result}
use Rattle.trees.specs.Tree.{Tree}
use Rattle.trees.specs.Automaton.{run, accepts}
use Rattle.list_laws.specs.Rows.{tabulate}
use Rattle.list_laws.specs.Tests.{all_below}
use Rattle.formats.specs.Rules.{state_count, label_count, rule_automaton}
use Rattle.formats.specs.Checks.{first_no, rule_checks}
use Rattle.formats.specs.Refusals.{answer_number}
use Rattle.formats.specs.declared.refusals.Refusal.{Refusal}
use Rattle.formats.proofs.RuleLaws.{RulesPass, rules-pass, rules-numbered}
use Rattle.formats.proofs.CheckLaws.{first_no-head, first_no-tail, first_no-append-left, first_no-append-right}
use Rattle.products.specs.Product.{pair_tree}
use Rattle.products.specs.Plans.{PlanOf}
use Rattle.products.specs.merging.Merged.{rule_head, rule_bytes, merged_states, merged_bytes, merge_checks}
use Rattle.products.specs.merging.Answer.{MergeDone}
use Rattle.products.proofs.merging.MergedTheorem.{merged-passes, merged-run, merged-accepts}

module _ (first second : List ℕ) (P : RulesPass first) (Q : RulesPass second) (fits : merged_states first second ≤ 16) where
  pub merged-table-passes : RulesPass (merged_bytes first second)
      × (state_count (merged_bytes first second) ≡ state_count first * state_count second)
      × (label_count (merged_bytes first second) ≡ label_count first)
  merged-table-passes = merged-passes first second P Q fits

  -- "the run of the merged table is the pair of runs on every plan"
  pub merged-table-run : (t : Tree) → PlanOf (label_count first) t
      → run (rule_automaton (merged_bytes first second)) t
      ≡ pair_tree (state_count second) (run (rule_automaton first) t) (run (rule_automaton second) t)
  merged-table-run = merged-run first second P Q fits

  -- "one table that clears exactly the plans that both clear"
  pub merged-table-clears : (t : Tree) → PlanOf (label_count first) t
      → accepts (rule_automaton (merged_bytes first second)) t ≡ (accepts (rule_automaton first) t && accepts
      (rule_automaton second) t)
  merged-table-clears = merged-accepts first second P Q fits

pub record Mergeable (first second : List ℕ) : Type 0 where
  pub first_passes : RulesPass first
  pub second_passes : RulesPass second
  pub same-labels : label_count first ≡ label_count second
  pub few-states : merged_states first second ≤ 16

pub accepted-mergeable : (first second : List ℕ) (n : ℕ) → first_no (merge_checks first second n) ≡ 0 → Mergeable first second
unfolding merge_checks
accepted-mergeable first second n z =
    let q = first_no-append-right (rule_checks first) _ (rules-numbered first) z in
    let l = first_no-append-right (rule_checks second) _ (rules-numbered second) q in
    record {
      first_passes = rules-pass first (first_no-append-left (rule_checks first) _ (rules-numbered first) z);
      second_passes = rules-pass second (first_no-append-left (rule_checks second) _ (rules-numbered second) q);
      same-labels = eqb-true (label_count first) (label_count second) (first_no-head 23 _ _ (omega arith) l);
      few-states = leb-true (merged_states first second) 16 (first_no-head 24 _ _ (omega arith) (first_no-tail 23 _ _
          (omega arith) l));
    }

module _ (first second out : List ℕ) (a : Result Unit Refusal) (out' : List ℕ) (D : MergeDone first second out a out') where
  pub merge-written : answer_number a ≡ 0 → out' ≡ merged_bytes first second ++ drop (length (merged_bytes first second)) out
  merge-written = D.merged

  pub merge-refused : (answer_number a ≡ 0 → ⊥) → out' ≡ out
  merge-refused = D.refused

  -- "The order of checks is 6 to 9 for the first table, 6 to 9 for the second, then 23 .., 24 .., and 11"
  module _ (accepted : answer_number a ≡ 0) where
    pub merge-accepted : Mergeable first second
    merge-accepted = accepted-mergeable first second (length out) (sym D.number ∙ accepted)

    pub merge-clears : (t : Tree) → PlanOf (label_count first) t
        → accepts (rule_automaton (merged_bytes first second)) t ≡ (accepts (rule_automaton first) t && accepts
        (rule_automaton second) t)
    merge-clears =
        merged-accepts first second merge-accepted.first_passes merge-accepted.second_passes
        merge-accepted.few-states

-- ---- computed: tables of K 1. `any_tree` has one state and clears everything; `after_leaf` has two and clears all but a single leaf

abbrev any_tree : List ℕ
any_tree = 1 ∷ 0 ∷ 0 ∷ 0 ∷ 1 ∷ 0 ∷ 0 ∷ 0 ∷ 20 ∷ 0 ∷ 0 ∷ 0 ∷ 21 ∷ 0 ∷ 0 ∷ 0 ∷ 22 ∷ 0 ∷ 0 ∷ 0 ∷ 0 ∷ 0 ∷ 1 ∷ []

abbrev after_leaf : List ℕ
after_leaf =
    2 ∷ 0 ∷ 0 ∷ 0 ∷ 1 ∷ 0 ∷ 0 ∷ 0 ∷ 20 ∷ 0 ∷ 0 ∷ 0 ∷ 21 ∷ 0 ∷ 0 ∷ 0 ∷ 25 ∷ 0 ∷ 0 ∷ 0 ∷ 0 ∷ 1 ∷ 1 ∷ 1 ∷ 1 ∷ 0 ∷ 1 ∷ []

-- one state changes nothing
sample-unit : merged_bytes after_leaf any_tree ≡ after_leaf
unfolding merged_bytes rule_bytes rule_head tabulate
sample-unit = refl

-- with itself: state p, q is 2 × p + q, and 3 alone is marked
sample-square : drop 20 (merged_bytes after_leaf after_leaf)
    ≡ 0 ∷ 3 ∷ 3 ∷ 3 ∷ 3 ∷ 3 ∷ 3 ∷ 3 ∷ 3 ∷ 3 ∷ 3 ∷ 3 ∷ 3 ∷ 3 ∷ 3 ∷ 3 ∷ 3 ∷ 0 ∷ 0 ∷ 0 ∷ 1 ∷ []
unfolding merged_bytes rule_bytes rule_head tabulate
sample-square = refl

sample-accepted : first_no (merge_checks after_leaf after_leaf 41) ≡ 0
unfolding merge_checks first_no rule_checks all_below
sample-accepted = refl

sample-short : first_no (merge_checks after_leaf after_leaf 40) ≡ 11
unfolding merge_checks first_no rule_checks all_below
sample-short = refl
