-- Document 01's sample clearance as calls, and what the reference model settles of them.
--
-- computing == opens every definition that a sample runs through
-- plan_a, table_a, inputs_a == plan A, table A and their tables; load_a: buffers with other contents, before Load
-- seen cs == what the reference model settles of the calls cs, and whether the model's answers agree
-- row vs bs p == the last answer of a question with p advances; start_row vs bs == that of its Start
use Rattle.std.specs.Prelude.{ℕ, zero, suc, Bool, List, [], ◌∷◌, ◌++◌, replicate}
use Rattle.std.proofs.Math.Option.{Option, none}
use Rattle.trees.specs.Numbering.{split, sub, parent, depth, is_in_subtree}
use Rattle.trees.specs.Postorder.{is_postorder, tree_of}
use Rattle.trees.specs.Changes.{changed}
use Rattle.trees.specs.Jumps.{jump_within, jump}
use Rattle.trees.specs.Climb.{next_move, climb_in, climb, walk}
use Rattle.list_laws.specs.Rows.{tabulate, rows}
use Rattle.trees.specs.Tables.{node_table_of, step_up, state_map, state_table_of}
use Rattle.list_laws.specs.Tests.{all_below, holds, distinct, same_list}
use Rattle.formats.specs.Checks.{first_no, plan_checks, rule_checks, list_checks, rule_table_checks, build_checks}
use Rattle.formats.specs.Built.{built_node_table, built_state_table}
use Rattle.tables.specs.Climbs.{below, run_on, rule_on, sibling_on, parent_on, move_on, climb_on}
use Rattle.questions.specs.ready.Members.{some_within, some_below, forks_at, has_member, keep, ready_list, roots}
use Rattle.questions.specs.ready.Parts.{any_below, last_below, move_state, climb_moves, climbed_links, inner_links}
use Rattle.questions.specs.ready.Parts.{part_links, sum_of, question_links, climbed_passed, inner_passed, part_passed, question_passed}
use Rattle.questions.specs.ready.Parts.{state_of, climbed_state, inner_state, part_state, part_of, parts_from, parts_of, last_state}
use Rattle.questions.specs.ready.Parts.{all_links, all_passed}
use Rattle.questions.specs.Part.{last_found, label_on, climb_from, run_reached, own_reached, join_on, inner_on, leaf_on}
use Rattle.questions.specs.Part.{fork_on, part_on}
use Rattle.formats.specs.Inputs.{Inputs, fits, same_node_inputs, same_inputs, names_sizes, node_table_built, state_table_built}
use Rattle.formats.specs.Inputs.{sound, states_below}
use Rattle.model.specs.Calls.{Call, load, start, advance, read, Answer, may_load, may_start}
use Rattle.model.specs.Calls.{is_running}
use Rattle.model.specs.Refusals.{refusal}
use Rattle.questions.specs.PartInputs.{given_of}
use Rattle.reference.specs.Reference.{phase, new_reference, in_state, longer, fresh_answer, rule_answer}
use Rattle.reference.specs.Reference.{starting, advanced, goes_further, other_states}
use Rattle.reference.specs.Reference.{may_advance_with, by_answer, advancing_by_program, advancing_by_rule, advancing}
use Rattle.reference.specs.Reference.{is_outcome, reading, reading_last, finished_with, proceed, decided, step}
use Rattle.reference.specs.Causes.{is_childless, is_flat, link_faulty, is_apart, node_table_cause, node_cause, rules_cause, cause}
use Rattle.reference.specs.Causes.{advance_cause}
use Rattle.model.specs.Model.{idle, fresh_record, started, stepped, advance_with, proceeds, unless}
use Rattle.model.specs.Model.{act}
use Rattle.reference.specs.AgreementTest.{answers_of, flag, code, same_answer, conforms, agreed, settled_in}
use Rattle.reference.specs.AgreementTest.{settled_answers}
use Rattle.changes.specs.Entries.{entries, nodes_listed, put, put_all, superseded}
use Rattle.changes.specs.Differing.{changing, differing}

unfoldable pub computing : ℕ
unfolding split sub parent depth is_postorder tree_of changed jump_within jump next_move climb_in climb walk tabulate
    rows node_table_of step_up state_map state_table_of all_below holds distinct same_list first_no plan_checks rule_checks
    list_checks rule_table_checks build_checks some_within some_below forks_at has_member keep ready_list roots is_in_subtree any_below
    last_below move_state climb_moves climbed_links inner_links part_links sum_of question_links climbed_passed
    inner_passed part_passed question_passed all_passed state_of climbed_state
    inner_state part_state part_of parts_from parts_of last_state all_links below run_on rule_on sibling_on parent_on move_on
    climb_on last_found label_on climb_from run_reached own_reached join_on inner_on leaf_on fork_on part_on fits same_node_inputs
    same_inputs names_sizes node_table_built state_table_built sound states_below may_load may_start is_running refusal phase
    is_childless is_flat link_faulty is_apart node_table_cause node_cause rules_cause cause advance_cause
    new_reference in_state given_of longer fresh_answer rule_answer starting
    advanced goes_further other_states may_advance_with by_answer advancing_by_program advancing_by_rule advancing is_outcome reading
    reading_last finished_with proceed decided step
    idle fresh_record started stepped advance_with proceeds unless act answers_of flag code same_answer
    conforms agreed settled_in settled_answers entries nodes_listed put put_all superseded changing differing
computing = 0

-- "Plan A: N 7, labels 1 1 1 0 1 0 1, kinds 0 0 1 0 0 1 1"
unfoldable pub plan_a : List ℕ
plan_a = 7 ∷ 0 ∷ 0 ∷ 0 ∷ 12 ∷ 0 ∷ 0 ∷ 0 ∷ 19 ∷ 0 ∷ 0 ∷ 0 ∷ 1 ∷ 1 ∷ 1 ∷ 0 ∷ 1 ∷ 0 ∷ 1 ∷ 0 ∷ 0 ∷ 1 ∷ 0 ∷ 0 ∷ 1 ∷ 1 ∷ []

-- "Table A: S 2, K 2, leaf states 0 1, inner 0 1 0 0 1 1 0 1, marks 0 1"
unfoldable pub table_a : List ℕ
table_a =
    2 ∷ 0 ∷ 0 ∷ 0 ∷ 2 ∷ 0 ∷ 0 ∷ 0 ∷ 20 ∷ 0 ∷ 0 ∷ 0 ∷ 22 ∷ 0 ∷ 0 ∷ 0 ∷ 30 ∷ 0 ∷ 0 ∷ 0
    ∷ 0 ∷ 1 ∷ 0 ∷ 1 ∷ 0 ∷ 0 ∷ 1 ∷ 1 ∷ 0 ∷ 1 ∷ 0 ∷ 1 ∷ []

unfoldable pub load_a : Inputs
unfolding plan_a table_a
load_a = record { plan = plan_a; rules = table_a; node_table = replicate 28 9; state_table = replicate 21 9 }

unfoldable pub inputs_a : Inputs
unfolding plan_a table_a computing
inputs_a = record { plan = plan_a; rules = table_a; node_table = built_node_table plan_a; state_table = built_state_table plan_a table_a }

unfoldable pub advances_on : ℕ → Inputs → List Call
advances_on zero x = []
advances_on (suc n) x = advance x ∷ advances_on n x

-- a Load, then a question with p advances and a Read, all on plan A undisturbed
unfoldable pub asking : List ℕ → List ℕ → ℕ → List Call
unfolding advances_on load_a inputs_a
asking vs bs p = load load_a ∷ start inputs_a vs bs ∷ (advances_on p inputs_a ++ (read ∷ []))

pub record SampleRun : Type 0 where
  pub says : List (Option Answer)
  pub agrees : Bool

unfoldable pub sample_run : List Call → SampleRun
unfolding computing
sample_run cs = record {
  says = settled_answers new_reference cs (answers_of fresh_record cs);
  agrees =
      agreed new_reference cs (answers_of fresh_record cs);
}

-- the last answer that the reference model settles; for answers that all agree
unfoldable pub closing : List (Option Answer) → Option Answer
closing [] = none
closing (a ∷ []) = a
closing (a ∷ b ∷ l) = closing (b ∷ l)

unfoldable pub row : List ℕ → List ℕ → ℕ → Option Answer
unfolding asking sample_run closing
row vs bs p = closing (sample_run (asking vs bs p)).says

unfoldable pub start_row : List ℕ → List ℕ → Option Answer
unfolding sample_run load_a inputs_a closing
start_row vs bs = closing (sample_run (load load_a ∷ start inputs_a vs bs ∷ [])).says
