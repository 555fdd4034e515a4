-- What the exported branch question promises: the promise of the call below for its answer, and that answer's number
-- and values.
--
-- end_of a old, accepted_of a old, links_of a old, passed_of a old == an output parameter afterwards: the answer's value,
--   or old where the call is refused
-- AskNumber f == an answer as a number and values, f being the number of a refusal
-- AskExported reading .. == the promise of the exported function of that reading
use Rattle.std.specs.Prelude.{ℕ, ◌≡◌, List, Result}
use Rattle.formats.specs.Refusals.{refusal_number, number_by}
use Rattle.formats.specs.declared.refusals.Refusal.{Refusal}
use Rattle.branches.specs.declared.answers.Reading.{Reading}
use Rattle.branches.specs.declared.answers.Branched.{Branched}
use Rattle.branches.specs.Promise.{AskDone}
use Rattle.capi.specs.numbers.Numbers.{bit_of, on_answer, value_of}

abbrev pub end_of : {E : Type 0} → Result Branched E → ℕ → ℕ
end_of a old = on_answer (value_of a) (λ b. b.state) old

abbrev pub accepted_of : {E : Type 0} → Result Branched E → ℕ → ℕ
accepted_of a old = on_answer (value_of a) (λ b. bit_of b.marked) old

abbrev pub links_of : {E : Type 0} → Result Branched E → ℕ → ℕ
links_of a old = on_answer (value_of a) (λ b. b.links) old

abbrev pub passed_of : {E : Type 0} → Result Branched E → ℕ → ℕ
passed_of a old = on_answer (value_of a) (λ b. b.passed) old

pub record AskNumber {E : Type 0} (f : E → ℕ) (a : Result Branched E) (state₀ yes₀ links₀ passed₀ r state₁ yes₁ links₁ passed₁ : ℕ) : Type 0 where
  pub result : r ≡ number_by f a
  pub state_answer : state₁ ≡ end_of a state₀
  pub yes_answer : yes₁ ≡ accepted_of a yes₀
  pub links_answer : links₁ ≡ links_of a links₀
  pub passed_answer : passed₁ ≡ passed_of a passed₀

pub record AskExported (reading : Reading) (p r node_table state_table : List ℕ)
    (u l n state₀ yes₀ links₀ passed₀ state₁ yes₁ links₁ passed₁ : ℕ) : Type 0 where
  pub answer : Result Branched Refusal
  pub done : AskDone reading p r node_table state_table u l answer
  pub number : AskNumber refusal_number answer state₀ yes₀ links₀ passed₀ n state₁ yes₁ links₁ passed₁
