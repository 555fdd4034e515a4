-- What the exported whole question promises: the promise of the call below for its answer, and that answer's number and
-- values.
--
-- end_of a old, accepted_of a old, parts_of a old, links_of a old, passed_of a old == an output afterwards: the answer's
--   value, or `old` where it is refused
-- WholeNumber == an answer as a number and values
-- WholeExported .. == the promise of the exported function
use Rattle.std.specs.Prelude.{ℕ, ◌≡◌, List, Result}
use Rattle.formats.specs.Refusals.{answer_number, told}
use Rattle.formats.specs.declared.refusals.Refusal.{Refusal}
use Rattle.whole_questions.specs.declared.answers.Asked.{Asked}
use Rattle.whole_questions.specs.Promise.{AskDone}
use Rattle.capi.specs.numbers.Numbers.{bit_of, on_answer}

abbrev pub end_of : Result Asked Refusal → ℕ → ℕ
end_of a old = on_answer (told a).1 (λ x. x.state) old

abbrev pub accepted_of : Result Asked Refusal → ℕ → ℕ
accepted_of a old = on_answer (told a).1 (λ x. bit_of x.marked) old

abbrev pub parts_of : Result Asked Refusal → ℕ → ℕ
parts_of a old = on_answer (told a).1 (λ x. x.parts) old

abbrev pub links_of : Result Asked Refusal → ℕ → ℕ
links_of a old = on_answer (told a).1 (λ x. x.links) old

abbrev pub passed_of : Result Asked Refusal → ℕ → ℕ
passed_of a old = on_answer (told a).1 (λ x. x.passed) old

pub record WholeNumber (a : Result Asked Refusal)
    (state₀ yes₀ parts₀ links₀ passed₀ r state₁ yes₁ parts₁ links₁ passed₁ : ℕ) : Type 0 where
  pub result : r ≡ answer_number a
  pub state_answer : state₁ ≡ end_of a state₀
  pub yes_answer : yes₁ ≡ accepted_of a yes₀
  pub parts_answer : parts₁ ≡ parts_of a parts₀
  pub links_answer : links₁ ≡ links_of a links₀
  pub passed_answer : passed₁ ≡ passed_of a passed₀

pub record WholeExported (p r node_table state_table vs bs : List ℕ)
    (n state₀ yes₀ parts₀ links₀ passed₀ state₁ yes₁ parts₁ links₁ passed₁ : ℕ) : Type 0 where
  pub answer : Result Asked Refusal
  pub done : AskDone p r node_table state_table vs bs answer
  pub number : WholeNumber answer state₀ yes₀ parts₀ links₀ passed₀ n state₁ yes₁ parts₁ links₁ passed₁
