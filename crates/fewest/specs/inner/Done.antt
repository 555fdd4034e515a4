-- What the call writes, exactly: the least number and the list of changes as they are worked out.
--
-- plan_problem r may want == the problem of rules r, where node v may be changed to the labels in may[v], to all where
--   `may` is empty
-- FewestDone == Answers' FewestTold with the number and the list themselves; tied to it by proofs/call/Promise
use Rattle.std.specs.Prelude.{ℕ, ◌+◌, ◌*◌, ◌≤◌, ◌≡◌, cond, List, eqb, length, get_or}
use Rattle.formats.specs.Plan.{node_count, plan_tree}
use Rattle.formats.specs.Rules.{state_count}
use Rattle.formats.specs.Checks.{first_no}
use Rattle.fewest.specs.Fewest.{fewest}
use Rattle.fewest.specs.inner.Cost.{Problem}
use Rattle.fewest.specs.inner.list.Shown.{shown_nodes, shown_labels, over}
use Rattle.fewest.specs.inner.Parts.{parts_problem}
use Rattle.fewest.specs.Answers.{wanted_mark, fewest_checks}

abbrev pub plan_problem : List ℕ → List ℕ → ℕ → Problem
plan_problem r may want = parts_problem r may (wanted_mark want)

pub record FewestDone (p r may : List ℕ) (want : ℕ) (work nodes labels : List ℕ) (least count answer : ℕ)
    (work' nodes' labels' : List ℕ) (least' count' : ℕ) : Type 0 where
  pub number : answer ≡ first_no (fewest_checks p r (length may) (length work) (length nodes) (length labels))
  pub least_is : least' ≡ cond (eqb answer 0) (fewest (plan_problem r may want) (plan_tree p)) least
  pub count_is : count' ≡ cond (eqb answer 0) (length (shown_nodes (plan_problem r may want) (plan_tree p))) count
  pub nodes_are : nodes' ≡ cond (eqb answer 0) (over (shown_nodes (plan_problem r may want) (plan_tree p)) nodes) nodes
  pub labels_are : labels' ≡ cond (eqb answer 0) (over (shown_labels (plan_problem r may want) (plan_tree p)) labels) labels
  pub work_kept : (answer ≡ 0 → ⊥) → work' ≡ work
  pub work_beyond : (j : ℕ) → node_count p * (state_count r + 1) ≤ j → get_or work' j 0 ≡ get_or work j 0
