-- What an accepted whole question answers, outside the session.
--
-- AskAnswered p r vs bs n state yes parts links passed == on tables as built: the fresh run's state and mark of the
--   changed plan, and the session's parts, links and nodes passed over
-- AskRuled .. == on run states and maps that are any bytes below S: what the parts by the rule of document 01 give
use Rattle.std.specs.Prelude.{ℕ, ◌≡◌, List, length}
use Rattle.formats.specs.Plan.{plan_tree}
use Rattle.formats.specs.Rules.{rule_automaton}
use Rattle.runs.specs.FreshRun.{root_state}
use Rattle.questions.specs.ready.Parts.{last_state, all_links, all_passed, question_links, question_passed}
use Rattle.whole_questions.specs.Promise.{roots_left, parts_lent}
use Rattle.capi.specs.numbers.Numbers.{bit_of}

pub record AskAnswered (p r vs bs : List ℕ) (n state yes parts links passed : ℕ) : Type 0 where
  pub accepted : n ≡ 0
  pub state_is : state ≡ root_state p r vs bs
  pub yes_is : yes ≡ bit_of ((rule_automaton r).accepting state)
  pub parts_are : parts ≡ length (roots_left p vs bs)
  pub links_are : links ≡ question_links (plan_tree p) (roots_left p vs bs)
  pub passed_are : passed ≡ question_passed (plan_tree p) (roots_left p vs bs)

pub record AskRuled (p r node_table state_table vs bs : List ℕ) (n state yes parts links passed : ℕ) : Type 0 where
  pub accepted : n ≡ 0
  pub state_is : state ≡ last_state (parts_lent p r node_table state_table vs bs) 0
  pub yes_is : yes ≡ bit_of ((rule_automaton r).accepting state)
  pub parts_are : parts ≡ length (roots_left p vs bs)
  pub links_are : links ≡ all_links (parts_lent p r node_table state_table vs bs)
  pub passed_are : passed ≡ all_passed (parts_lent p r node_table state_table vs bs)
