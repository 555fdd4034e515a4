-- What the exported fresh run promises: the promise of the call below for its answer, and that answer's number and
-- values.
--
-- state_of a old, marked_of a old == an output parameter afterwards: the answer's value, or old where the call is refused
-- RunNumber == an answer as a number and values
-- RunExported == the promise of the exported function
use Rattle.std.specs.Prelude.{ℕ, ◌≡◌, List, Result}
use Rattle.formats.specs.Refusals.{answer_number, told}
use Rattle.formats.specs.declared.refusals.Refusal.{Refusal}
use Rattle.runs.specs.declared.answer.Verdict.{Verdict}
use Rattle.runs.specs.FreshRun.{FreshRunDone}
use Rattle.capi.specs.numbers.Numbers.{bit_of, on_answer}

abbrev pub state_of : Result Verdict Refusal → ℕ → ℕ
state_of a old = on_answer (told a).1 (λ x. x.state) old

abbrev pub marked_of : Result Verdict Refusal → ℕ → ℕ
marked_of a old = on_answer (told a).1 (λ x. bit_of x.accepted) old

pub record RunNumber (a : Result Verdict Refusal) (state₀ yes₀ r state₁ yes₁ : ℕ) : Type 0 where
  pub result : r ≡ answer_number a
  pub state_answer : state₁ ≡ state_of a state₀
  pub yes_answer : yes₁ ≡ marked_of a yes₀

pub record RunExported (p r vs bs : List ℕ) (n state₀ yes₀ state₁ yes₁ : ℕ) : Type 0 where
  pub answer : Result Verdict Refusal
  pub done : FreshRunDone p r vs bs answer
  pub number : RunNumber answer state₀ yes₀ n state₁ yes₁
