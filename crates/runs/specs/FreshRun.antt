-- The fresh run: what it answers, on every input.
--
-- changed_tree p vs bs == plan p's tree with label bs[i] at node vs[i]; of two entries for a node the last would hold
-- root_state p r vs bs, root_accepted p r vs bs == the root's state, and its yes or no, in rules r's run over that tree
-- verdict p r vs bs == both
-- fresh_run p r vs bs == what is told: the number of the first failing check, or 0 with the verdict
-- FreshRunDone == the promise of fresh_run: the answer, and its number
--
-- The run is source document 002's (crate trees, Automaton): no table and no stack is in it. That the answer does not
-- depend on the order of the list is fresh_run-order (proofs/OrderLaws).
use Rattle.std.specs.Prelude.{ℕ, ◌≡◌, refl, Bool, List, [], Result}
use Rattle.std.proofs.Math.Option.{Option}
use Rattle.trees.specs.Tree.{Tree}
use Rattle.trees.specs.Automaton.{state, accepts}
use Rattle.trees.specs.Postorder.{tree_of}
use Rattle.trees.specs.Changes.{changed}
use Rattle.formats.specs.Plan.{labels_within, kinds_in, plan_tree}
use Rattle.formats.specs.Rules.{rule_automaton}
use Rattle.formats.specs.Checks.{first_no, fresh_run_checks}
use Rattle.formats.specs.Refusals.{answer_number, told, told_as}
use Rattle.formats.specs.declared.refusals.Refusal.{Refusal}
use Rattle.runs.specs.declared.answer.Verdict.{Verdict}

-- "on Start's plan with the listed labels changed"
abbrev pub changed_tree : List ℕ → List ℕ → List ℕ → Tree
changed_tree p vs bs = tree_of (kinds_in p) (changed (labels_within p) vs bs)

-- with no changes the run is that of the plan itself
pub changed_tree_none : (p : List ℕ) → changed_tree p [] [] ≡ plan_tree p
unfolding changed
changed_tree_none p = refl

-- "the root state, and its yes or no, of a fresh run (source document 002's, ..)"
abbrev pub root_state : List ℕ → List ℕ → List ℕ → List ℕ → ℕ
root_state p r vs bs = state (rule_automaton r) (changed_tree p vs bs)

abbrev pub root_accepted : List ℕ → List ℕ → List ℕ → List ℕ → Bool
root_accepted p r vs bs = accepts (rule_automaton r) (changed_tree p vs bs)

-- "a fresh run without tables (it tells state, yes or no)"
abbrev pub verdict : List ℕ → List ℕ → List ℕ → List ℕ → Verdict
verdict p r vs bs = record { state = root_state p r vs bs; accepted = root_accepted p r vs bs }

-- "the fresh run 2 to 10, then 12 to 15", of which S-4 leaves 12 to 14
unfoldable pub fresh_run : List ℕ → List ℕ → List ℕ → List ℕ → ℕ × Option Verdict
fresh_run p r vs bs = told_as (first_no (fresh_run_checks p r vs bs)) (verdict p r vs bs)

pub record FreshRunDone (p r vs bs : List ℕ) (answer : Result Verdict Refusal) : Type 0 where
  pub result : told answer ≡ fresh_run p r vs bs
  pub number : answer_number answer ≡ first_no (fresh_run_checks p r vs bs)
