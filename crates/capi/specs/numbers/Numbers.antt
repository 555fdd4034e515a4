-- Answers as numbers: a yes or no, and what an exported build and full check promise: the promise of the call below for
-- its answer, and that answer's number and values.
--
-- bit_of b == 1 for yes, 0 for no
-- on_answer o f old == an output parameter afterwards: its value by f where there is an answer, else what it held
-- value_of a == the value of an answer; none where the call is refused
-- yes_of a old == the output parameter of a full check's yes afterwards: the answer's value, or old where the call is
--   refused
-- CheckNumber f == an answer as a number and values, f being the number of a refusal
-- BuildExported, CheckExported == the promises of the exported functions
use Rattle.std.specs.Prelude.{ℕ, ◌≡◌, Bool, true, false, List, Result, Ok, Err}
use Rattle.std.proofs.Math.Option.{Option, none, some}
use Rattle.formats.specs.Refusals.{refusal_number, number_by, answer_number}
use Rattle.formats.specs.declared.refusals.Refusal.{Refusal}
use Rattle.tables.specs.Answers.{BuildDone, CheckDone}

abbrev pub bit_of : Bool → ℕ
bit_of true = 1
bit_of false = 0

abbrev pub on_answer : {A : Type 0} → Option A → (A → ℕ) → ℕ → ℕ
on_answer none f old = old
on_answer (some x) f old = f x

pub record BuildExported (n : ℕ) (links states node_table state_table : List ℕ) (r : ℕ) (node_table' state_table' : List ℕ) : Type 0 where
  pub answer : Result Unit Refusal
  pub done : BuildDone n links states node_table state_table answer node_table' state_table'
  pub result : r ≡ answer_number answer

abbrev pub value_of : {A E : Type 0} → Result A E → Option A
value_of (Ok x) = some x
value_of (Err e) = none

abbrev pub yes_of : {E : Type 0} → Result Bool E → ℕ → ℕ
yes_of a old = on_answer (value_of a) bit_of old

pub record CheckNumber {E : Type 0} (f : E → ℕ) (a : Result Bool E) (yes₀ r yes₁ : ℕ) : Type 0 where
  pub result : r ≡ number_by f a
  pub yes_answer : yes₁ ≡ yes_of a yes₀

pub record CheckExported (n : ℕ) (links states node_table state_table : List ℕ) (r yes₀ yes₁ : ℕ) : Type 0 where
  pub answer : Result Bool Refusal
  pub done : CheckDone n links states node_table state_table answer
  pub number : CheckNumber refusal_number answer yes₀ r yes₁
