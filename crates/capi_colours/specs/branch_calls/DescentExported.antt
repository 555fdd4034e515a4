-- What the exported branch questions by colours promise: the promise of the call below for its answer, and that
-- answer's number and values.
--
-- end_of a old, accepted_of a old, drops_of a old, links_of a old == an output afterwards: the answer's value, or
--   `old` where it is refused
-- DescentNumber == an answer as a number and values
-- DescentExported reading .. == the promise of the exported function of that reading
-- WordAnswered reading .. == what it answers on tables as built
--
-- "Both are put outside the session and tell state, yes or no, drops and links".
use Rattle.std.specs.Prelude.{ℕ, ◌-◌, ◌*◌, ◌≤◌, ◌≡◌, List, Result}
use Rattle.std.proofs.Math.Option.{some}
use Rattle.trees.specs.Automaton.{word_run}
use Rattle.formats.specs.Plan.{plan_tree}
use Rattle.formats.specs.Rules.{state_count, branch_automaton}
use Rattle.formats.specs.Refusals.{answer_number, told}
use Rattle.formats.specs.declared.refusals.Refusal.{Refusal}
use Rattle.branches.specs.declared.answers.Reading.{Reading}
use Rattle.branches.specs.Promise.{word_of}
use Rattle.colours.specs.Descents.{Descent, links}
use Rattle.colour_questions.specs.declared.branch.answers.ColourAsked.{ColourAsked}
use Rattle.colour_questions.specs.branch.Promise.{word_descent, word_drops, ColourAskDone}
use Rattle.capi.specs.numbers.Numbers.{bit_of, on_answer}

abbrev pub end_of : Result ColourAsked Refusal → ℕ → ℕ
end_of a old = on_answer (told a).1 (λ c. c.state) old

abbrev pub accepted_of : Result ColourAsked Refusal → ℕ → ℕ
accepted_of a old = on_answer (told a).1 (λ c. bit_of c.marked) old

abbrev pub drops_of : Result ColourAsked Refusal → ℕ → ℕ
drops_of a old = on_answer (told a).1 (λ c. c.drops) old

abbrev pub links_of : Result ColourAsked Refusal → ℕ → ℕ
links_of a old = on_answer (told a).1 (λ c. c.links) old

pub record DescentNumber (a : Result ColourAsked Refusal) (state₀ yes₀ drops₀ links₀ r state₁ yes₁ drops₁ links₁ : ℕ)
    : Type 0 where
  pub result : r ≡ answer_number a
  pub state_answer : state₁ ≡ end_of a state₀
  pub yes_answer : yes₁ ≡ accepted_of a yes₀
  pub drops_answer : drops₁ ≡ drops_of a drops₀
  pub links_answer : links₁ ≡ links_of a links₀

pub record DescentExported (reading : Reading) (p r node_table numbers bytes : List ℕ)
    (u l n state₀ yes₀ drops₀ links₀ state₁ yes₁ drops₁ links₁ : ℕ) : Type 0 where
  pub answer : Result ColourAsked Refusal
  pub done : ColourAskDone reading p r node_table numbers bytes u l answer
  pub number : DescentNumber answer state₀ yes₀ drops₀ links₀ n state₁ yes₁ drops₁ links₁

-- on tables as built: the word automaton's answer, with the drops and links of the descent by the tree's own colours
pub record WordAnswered (reading : Reading) (p r : List ℕ) (u l n state₁ yes₁ drops₁ links₁ : ℕ) : Type 0 where
  pub accepted : n ≡ 0
  pub state : state₁ ≡ word_run (branch_automaton r) 0 (word_of reading (plan_tree p) u l)
  pub yes : yes₁ ≡ bit_of ((branch_automaton r).accepting state₁)
  pub drops_are : drops₁ ≡ word_drops reading (branch_automaton r) (plan_tree p) u l
  -- the links of the searches for them by the tree's own colours
  pub way : Descent
  pub found : word_descent reading (branch_automaton r) (plan_tree p) u l ≡ some way
  pub links_are : links₁ ≡ links way
  pub falls : drops₁ ≤ state_count r - 1
  pub few : links₁ ≤ drops₁ * 45
