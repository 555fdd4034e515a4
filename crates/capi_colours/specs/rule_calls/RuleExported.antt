-- What the exported rule question by colours promises: the promise of the call below for its answer, and that answer's
-- number and values.
--
-- end_of a old, accepted_of a old, drops_of a old, links_of a old, parts_of a old == an output afterwards: the
--   answer's value, or `old` where it is refused
-- RuleNumber == an answer as a number and values
-- RuleExported .. == the promise of the exported function
-- RunAnswered .. == what it answers on tables as built
--
-- "tell state, yes or no, drops and links; a rule question tells its parts too".
use Rattle.std.specs.Prelude.{ℕ, ◌*◌, ◌≤◌, ◌≡◌, List, length, Result}
use Rattle.formats.specs.Plan.{plan_tree}
use Rattle.formats.specs.Rules.{rule_automaton}
use Rattle.formats.specs.Refusals.{answer_number, told}
use Rattle.formats.specs.declared.refusals.Refusal.{Refusal}
use Rattle.runs.specs.FreshRun.{root_state}
use Rattle.colours.specs.Descents.{sum}
use Rattle.colour_questions.specs.declared.rule.answers.RuleAsked.{RuleAsked}
use Rattle.colour_questions.specs.rule.Promise.{roots_left, searches_left, RuleAskDone}
use Rattle.colour_questions.specs.parts.OneSided.{one_sided}
use Rattle.capi.specs.numbers.Numbers.{bit_of, on_answer}

abbrev pub end_of : Result RuleAsked Refusal → ℕ → ℕ
end_of a old = on_answer (told a).1 (λ c. c.state) old

abbrev pub accepted_of : Result RuleAsked Refusal → ℕ → ℕ
accepted_of a old = on_answer (told a).1 (λ c. bit_of c.marked) old

abbrev pub drops_of : Result RuleAsked Refusal → ℕ → ℕ
drops_of a old = on_answer (told a).1 (λ c. c.drops) old

abbrev pub links_of : Result RuleAsked Refusal → ℕ → ℕ
links_of a old = on_answer (told a).1 (λ c. c.links) old

abbrev pub parts_of : Result RuleAsked Refusal → ℕ → ℕ
parts_of a old = on_answer (told a).1 (λ c. c.parts) old

pub record RuleNumber (a : Result RuleAsked Refusal)
    (state₀ yes₀ drops₀ links₀ parts₀ r state₁ yes₁ drops₁ links₁ parts₁ : ℕ) : Type 0 where
  pub result : r ≡ answer_number a
  pub state_answer : state₁ ≡ end_of a state₀
  pub yes_answer : yes₁ ≡ accepted_of a yes₀
  pub drops_answer : drops₁ ≡ drops_of a drops₀
  pub links_answer : links₁ ≡ links_of a links₀
  pub parts_answer : parts₁ ≡ parts_of a parts₀

pub record RuleExported (p r node_table state_table numbers bytes vs bs : List ℕ)
    (n state₀ yes₀ drops₀ links₀ parts₀ state₁ yes₁ drops₁ links₁ parts₁ : ℕ) : Type 0 where
  pub answer : Result RuleAsked Refusal
  pub done : RuleAskDone p r node_table state_table numbers bytes vs bs answer
  pub number : RuleNumber answer state₀ yes₀ drops₀ links₀ parts₀ n state₁ yes₁ drops₁ links₁ parts₁

-- on tables as built: the fresh run's answer of the changed plan
pub record RunAnswered (p r vs bs : List ℕ) (n state₁ yes₁ drops₁ links₁ parts₁ : ℕ) : Type 0 where
  pub accepted : n ≡ 0
  pub state : state₁ ≡ root_state p r vs bs
  pub yes : yes₁ ≡ bit_of ((rule_automaton r).accepting state₁)
  pub parts : parts₁ ≡ length (roots_left p vs bs)
  -- the searches of the trials by the tree's own colours: their number, and the links of all
  pub drops_are : drops₁ ≡ length (searches_left p r vs bs)
  pub links_are : links₁ ≡ sum (searches_left p r vs bs)
  pub falls : drops₁ ≤ 60 * one_sided (plan_tree p) (roots_left p vs bs) (roots_left p vs bs)
  pub few : links₁ ≤ drops₁ * 45
