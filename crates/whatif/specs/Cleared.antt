-- What a question's answer is by the definitions alone, with no session.
--
-- answer_to p r vs bs == of the changes vs to bs on the plan p and the rules r: the number of the first check of 12 to 14 that fails, or the
--   state and the yes or no of a run on the changed plan, the parts, as links the moves of their climbs, and the nodes that these passed
--   over; W is the nodes whose label changes
-- Cleared s x == the session s is the one that an accepted Load left, and x is what it was given, with the tables that it wrote
--
-- That the program's calls return this answer is proved in proofs/Theorems.
use Rattle.std.specs.Prelude.{ℕ, zero, suc, ◌≡◌, List, length}
use Rattle.trees.specs.Tree.{Tree}
use Rattle.trees.specs.Automaton.{state, accepts}
use Rattle.trees.specs.Postorder.{tree_of}
use Rattle.trees.specs.Changes.{changed}
use Rattle.formats.specs.Plan.{node_count, plan_tree, labels_within, kinds_in}
use Rattle.formats.specs.Rules.{label_count, rule_automaton}
use Rattle.formats.specs.Checks.{first_no, list_checks}
use Rattle.formats.specs.Built.{built_node_table, built_state_table}
use Rattle.tables.specs.Answers.{written}
use Rattle.changes.specs.Differing.{differing}
use Rattle.questions.specs.ready.Members.{roots}
use Rattle.questions.specs.ready.Parts.{question_links, question_passed}
use Rattle.formats.specs.Inputs.{Inputs}
use Rattle.model.specs.Calls.{load, Answer, refused, accepted, outcome_answer}
use Rattle.session.specs.declared.state.Session.{Session}
use Rattle.session.specs.Records.{fresh_session}
use Rattle.session.specs.Promises.{answer_on, record_on}

-- the plan's tree with the listed labels changed
abbrev pub changed_plan : List ℕ → List ℕ → List ℕ → Tree
changed_plan p vs bs = tree_of (kinds_in p) (changed (labels_within p) vs bs)

unfoldable pub answer_by : ℕ → List ℕ → List ℕ → List ℕ → List ℕ → Answer
answer_by zero p r vs bs =
    outcome_answer (state (rule_automaton r) (changed_plan p vs bs)) (accepts (rule_automaton r) (changed_plan p vs bs))
    (length (roots (plan_tree p) (differing (labels_within p) vs bs))) (question_links (plan_tree p) (roots (plan_tree p) (differing (labels_within p) vs bs)))
    (question_passed (plan_tree p) (roots (plan_tree p) (differing (labels_within p) vs bs)))
answer_by (suc n) p r vs bs = refused (suc n)

abbrev pub answer_to : List ℕ → List ℕ → List ℕ → List ℕ → Answer
answer_to p r vs bs = answer_by (first_no (list_checks (node_count p) (label_count r) vs bs)) p r vs bs

pub record Cleared (s : Session) (x : Inputs) : Type 0 where
  -- what Load was given
  pub lent : Inputs
  pub taken : answer_on fresh_session (load lent) ≡ accepted
  pub session : s ≡ record_on fresh_session (load lent)
  pub plan : x.plan ≡ lent.plan
  pub rules : x.rules ≡ lent.rules
  pub node_table : x.node_table ≡ written 0 (built_node_table lent.plan) lent.node_table
  pub state_table : x.state_table ≡ written 0 (built_state_table lent.plan lent.rules) lent.state_table
