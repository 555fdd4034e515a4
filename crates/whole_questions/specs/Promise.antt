-- What a whole question promises, on every input and on tables as built.
--
-- TotalKept X m parts x == what holds of the total x of so many parts, where m nodes are left in W, for any inputs
-- AskKept .. answer == that of an answer, whose yes is its state's mark
-- AskUsable .. == plan, rules and node table as built, run states and maps any bytes below S
-- roots_left p vs bs == the roots of the parts: those of a question in the session
-- ruled_answer .. == the answer of the parts that the rule of document 01 gives on those bytes
-- fresh_answer p r vs bs == the answer of the fresh run of the changed plan, with the session's parts, links and nodes
--   passed over
-- AskDone .. == the promise
use Rattle.std.specs.Prelude.{ℕ, ◌+◌, ◌*◌, ◌≤◌, ◌<◌, ◌≡◌, true, List, [], length, Result, Ok, Err}
use Rattle.formats.specs.Plan.{node_count, plan_tree, labels_within}
use Rattle.formats.specs.Rules.{state_count, label_count, rule_automaton}
use Rattle.formats.specs.Checks.{first_no, list_checks, rule_table_checks, state_table_length}
use Rattle.formats.specs.Inputs.{inputs_of, sizes_in, states_below}
use Rattle.formats.specs.Built.{AsBuilt, node_table_part, built_node_table}
use Rattle.formats.specs.Refusals.{answer_number, told}
use Rattle.formats.specs.declared.refusals.Refusal.{Refusal}
use Rattle.runs.specs.FreshRun.{root_state, root_accepted}
use Rattle.changes.specs.Differing.{differing}
use Rattle.tables.specs.node_tables.Cells.{depth_cell}
use Rattle.tables.specs.declared.answers.Reached.{Reached}
use Rattle.tables.specs.Climbs.{View, reached}
use Rattle.questions.specs.ready.Members.{roots}
use Rattle.questions.specs.ready.Parts.{Given, Part, parts_of, last_state, all_links, all_passed, question_links, question_passed}
use Rattle.questions.specs.OutOfRange.{PartOutOfRange}
use Rattle.questions.specs.PartInputs.{given_of}
use Rattle.whole_questions.specs.declared.answers.Asked.{Asked}
use Rattle.whole_questions.specs.Question.{view_lent, left_lent, answered_with, ask_number, ask_answer}

-- ---- on any tables

pub record TotalKept (X : View) (m parts : ℕ) (x : Reached) : Type 0 where
  pub state_below : x.state < X.s
  -- at most 4m - 2 parts, 1 where no node is left
  pub one : m ≡ 0 → parts ≡ 1
  pub few : 0 < m → parts + 2 ≤ 4 * m
  pub links_most : x.links ≤ parts * X.n
  pub links_passed : x.links ≤ x.passed
  -- any bound d on the depths in the table: 65,535 in 16-bit numbers
  pub passed_most : (d : ℕ) → ((v : ℕ) → depth_cell X.node_table v ≤ d) → x.passed ≤ parts * d

abbrev pub AskKept : List ℕ → List ℕ → List ℕ → List ℕ → List ℕ → List ℕ → Result Asked Refusal → Type 0
AskKept p r node_table state_table vs bs (Ok a) =
    (a.marked ≡ (rule_automaton r).accepting a.state)
    × TotalKept (view_lent p r node_table state_table) (length (left_lent p vs bs)) a.parts (reached a.state a.links a.passed)
AskKept p r node_table state_table vs bs (Err e) = Unit {0}

-- ---- on tables as built

-- "Where plan and rules name the record's N, S and K and, like the 16-bit numbers, are .. as built, but run states and
-- maps are any bytes below S": here N, S and K are those of the headers
pub record AskUsable (p r node_table state_table : List ℕ) : Type 0 where
  pub accepted : first_no (rule_table_checks p r) ≡ 0
  pub links : node_table_part (node_count p) node_table ≡ built_node_table p
  pub room : state_table_length (node_count p) (state_count r) ≤ length state_table
  pub below : states_below (sizes_in (inputs_of p r node_table state_table)) (inputs_of p r node_table state_table) ≡ true

abbrev pub roots_left : List ℕ → List ℕ → List ℕ → List ℕ
roots_left p vs bs = roots (plan_tree p) (differing (labels_within p) vs bs)

-- what the rule of a part reads of the inputs
abbrev pub given_lent : List ℕ → List ℕ → List ℕ → List ℕ → List ℕ → List ℕ → Given
given_lent p r node_table state_table vs bs =
    given_of (sizes_in (inputs_of p r node_table state_table)) (inputs_of p r node_table state_table)
    (inputs_of p r node_table state_table) vs bs

-- what it gives: the parts, as the session handles them
abbrev pub parts_lent : List ℕ → List ℕ → List ℕ → List ℕ → List ℕ → List ℕ → List Part
parts_lent p r node_table state_table vs bs =
    parts_of (given_lent p r node_table state_table vs bs) (roots_left p vs bs)

abbrev pub total_of : List Part → Reached
total_of ps = reached (last_state ps 0) (all_links ps) (all_passed ps)

abbrev pub ruled_answer : List ℕ → List ℕ → List ℕ → List ℕ → List ℕ → List ℕ → Asked
ruled_answer p r node_table state_table vs bs =
    answered_with r (total_of (parts_lent p r node_table state_table vs bs)) (length (roots_left p vs bs))

-- "the root state, and its yes or no, of a fresh run (source document 002's, on Start's plan with the listed labels
-- changed), the parts, and as links the moves of its parts' climbs"; document 02, S-7: "the total over their climbs"
abbrev pub fresh_answer : List ℕ → List ℕ → List ℕ → List ℕ → Asked
fresh_answer p r vs bs = record {
  state = root_state p r vs bs;
  marked = root_accepted p r vs bs;
  parts = length (roots_left p vs bs);
  links = question_links (plan_tree p) (roots_left p vs bs);
  passed = question_passed (plan_tree p) (roots_left p vs bs);
}

pub record AskDone (p r node_table state_table vs bs : List ℕ) (answer : Result Asked Refusal) : Type 0 where
  -- on every input: the first failing check of 17, 12, 13, 14 and 18, or the named result
  pub result : told answer ≡ ask_answer p r node_table state_table vs bs
  pub number : answer_number answer ≡ ask_number p r node_table state_table vs bs
  -- an answer's state is below S, yes is its mark, its parts are few, and each adds the links of one climb
  pub properties : AskKept p r node_table state_table vs bs answer
  -- 18 only where a value leads outside the plan, the states or the labels, or a link does not rise
  pub out_of_range : answer_number answer ≡ 18 → PartOutOfRange (view_lent p r node_table state_table) [] vs bs
  -- plan, rules and node table as built and any bytes below S: the parts by the rule of document 01, never 18
  pub usable : AskUsable p r node_table state_table → first_no (list_checks (node_count p) (label_count r) vs bs) ≡ 0
      → answer ≡ Ok (ruled_answer p r node_table state_table vs bs)
  -- on tables as built and a list that passes 12 to 14: the fresh run's answer of the changed plan, never 18
  pub built : AsBuilt p r node_table state_table → first_no (list_checks (node_count p) (label_count r) vs bs) ≡ 0
      → answer ≡ Ok (fresh_answer p r vs bs)
