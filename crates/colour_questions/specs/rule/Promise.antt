-- What a rule question by colours promises, on every input and on tables as built.
--
-- RuleColoursBuilt p r .. == node table, state table and tables of colours are as built from plan and rules
-- roots_left p vs bs == the roots of the parts: those of a question in the session
-- RuleColourAnswer p r vs bs answer == the answer is the fresh run's of the changed plan, with the session's number of
--   parts, at most 60 drops for each one-sided part, and at most 45 links for each drop
-- state_kept r answer == an answer's state is below S, and yes is its mark
-- links_kept answer == its drops and links are few
-- RuleAskDone .. == the promise of a rule question by colours
use Rattle.std.specs.Prelude.{ℕ, ◌*◌, ◌≤◌, ◌<◌, ◌≡◌, true, List, [], length, Result, Ok, Err}
use Rattle.formats.specs.Plan.{node_count, plan_tree, labels_within}
use Rattle.formats.specs.Rules.{state_count, label_count, rule_automaton}
use Rattle.formats.specs.Checks.{first_no, list_checks, rule_table_checks, state_table_length}
use Rattle.formats.specs.Inputs.{inputs_of, sizes_in, states_below}
use Rattle.formats.specs.Built.{AsBuilt, node_table_part, built_node_table}
use Rattle.formats.specs.Refusals.{answer_number, told}
use Rattle.formats.specs.declared.refusals.Refusal.{Refusal}
use Rattle.runs.specs.FreshRun.{changed_tree, root_state}
use Rattle.colour_questions.specs.parts.Searches.{question_searches}
use Rattle.colours.specs.Descents.{AllLe}
use Rattle.changes.specs.Differing.{differing}
use Rattle.questions.specs.ready.Members.{roots}
use Rattle.questions.specs.ready.Parts.{Given, last_state}
use Rattle.questions.specs.PartInputs.{given_of}
use Rattle.colour_questions.specs.parts.Trials.{tried_parts, trials_from}
use Rattle.colour_tables.specs.rule.Build.{RuleColoured}
use Rattle.colour_questions.specs.parts.OneSided.{one_sided}
use Rattle.colour_questions.specs.declared.rule.answers.RuleAsked.{RuleAsked}
use Rattle.colour_questions.specs.rule.Question.{lent_colours, rule_ask_number, rule_ask_answer}
use Rattle.colour_questions.specs.rule.Question.{answered_with}
use Rattle.colour_questions.specs.rule.OutOfRange.{RuleColoursOutOfRange}

pub record RuleColoursBuilt (p r node_table state_table numbers bytes : List ℕ) : Type 0 where
  pub tables : AsBuilt p r node_table state_table
  pub coloured : RuleColoured p r numbers bytes

-- the colours as built, and run states that are any bytes below S
pub record RuleColoursUsable (p r node_table state_table numbers bytes : List ℕ) : Type 0 where
  pub accepted : first_no (rule_table_checks p r) ≡ 0
  pub links : node_table_part (node_count p) node_table ≡ built_node_table p
  pub coloured : RuleColoured p r numbers bytes
  pub room : state_table_length (node_count p) (state_count r) ≤ length state_table
  pub below : states_below (sizes_in (inputs_of p r node_table state_table)) (inputs_of p r node_table state_table) ≡ true

abbrev pub roots_left : List ℕ → List ℕ → List ℕ → List ℕ
roots_left p vs bs = roots (plan_tree p) (differing (labels_within p) vs bs)

-- the searches of the question by the tree's own colours: its drops and links
abbrev pub searches_left : List ℕ → List ℕ → List ℕ → List ℕ → List ℕ
searches_left p r vs bs = question_searches (rule_automaton r) (plan_tree p) (changed_tree p vs bs) (roots_left p vs bs)

-- what the rule of a part reads of the inputs
abbrev pub given_lent : List ℕ → List ℕ → List ℕ → List ℕ → List ℕ → List ℕ → Given
given_lent p r node_table state_table vs bs =
    given_of (sizes_in (inputs_of p r node_table state_table)) (inputs_of p r node_table state_table)
    (inputs_of p r node_table state_table) vs bs

pub record RuleColourAnswer (p r vs bs : List ℕ) (answer : Result RuleAsked Refusal) : Type 0 where
  pub is : answer ≡ Ok (answered_with r (root_state p r vs bs) (searches_left p r vs bs) (length (roots_left p vs bs)))
  -- "the drops add up to at most 60 for each such part"
  pub falls : length (searches_left p r vs bs) ≤ 60 * one_sided (plan_tree p) (roots_left p vs bs) (roots_left p vs bs)
  -- "the moves are the links, at most 45"
  pub few : AllLe 45 (searches_left p r vs bs)

abbrev pub state_kept : List ℕ → Result RuleAsked Refusal → Type 0
state_kept r (Ok a) = (a.state < state_count r) × (a.marked ≡ (rule_automaton r).accepting a.state)
state_kept r (Err e) = Unit {0}

-- for any inputs: at most 60 drops for each part, and a search takes fewer links than a plan can have nodes
abbrev pub links_kept : Result RuleAsked Refusal → Type 0
links_kept (Ok a) = (a.drops ≤ a.parts * 60) × (a.links ≤ a.drops * 65535)
links_kept (Err e) = Unit {0}

pub record RuleAskDone (p r node_table state_table numbers bytes vs bs : List ℕ) (answer : Result RuleAsked Refusal) : Type 0 where
  -- on every input: the first failing check of 17, 27, 12, 13, 14 and 18, or the named result
  pub result : told answer ≡ rule_ask_answer p r node_table state_table numbers bytes vs bs
  pub number : answer_number answer ≡ rule_ask_number p r node_table state_table numbers bytes vs bs
  -- an answer's state is below S, and yes is its mark
  pub properties : state_kept r answer
  -- at most 60 drops for each part, and 65,535 links for each drop
  pub few : links_kept answer
  -- 18 only where a value leads outside the plan, the states or the labels, does not rise, or no target state is found
  pub out_of_range : answer_number answer ≡ 18
      → RuleColoursOutOfRange (lent_colours p r node_table state_table numbers bytes) vs bs
  -- on colours as built and any run states below S: the parts by their trials, never 18
  pub usable : RuleColoursUsable p r node_table state_table numbers bytes
      → first_no (list_checks (node_count p) (label_count r) vs bs) ≡ 0
      → answer ≡ Ok (answered_with r (last_state (tried_parts (given_lent p r node_table state_table vs bs) (roots_left p vs bs) []
      (roots_left p vs bs)) 0) (trials_from (given_lent p r node_table state_table vs bs) (roots_left p vs bs) []
      (roots_left p vs bs)) (length (roots_left p vs bs)))
  -- on tables as built and a list that passes 12 to 14: the fresh run's answer of the changed plan, never 18
  pub built : RuleColoursBuilt p r node_table state_table numbers bytes
      → first_no (list_checks (node_count p) (label_count r) vs bs) ≡ 0 → RuleColourAnswer p r vs bs answer
