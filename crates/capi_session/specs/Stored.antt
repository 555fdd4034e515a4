-- What is stored and reported of a call's answer.
--
-- places a b c d e == the five output parameters of Read
-- Stored a new b r b' == the answer's number, and the bytes new unless it is refused
-- DoneStored, StartStored, AdvanceStored, ReadStored == an answer as a number, values and record bytes
-- AdvanceArgs t i b == what is asked where the step t of part i is stored in the record bytes b
use Rattle.std.specs.Prelude.{ℕ, ◌<◌, ◌≡◌, true, List, length}
use Rattle.formats.specs.Limits.{part_limit}
use Rattle.model.specs.Calls.{Answer}
use Rattle.session.specs.declared.answers.Called.{Called}
use Rattle.session.specs.declared.answers.Started.{Started}
use Rattle.session.specs.declared.answers.AdvanceStep.{AdvanceStep}
use Rattle.std.specs.Prelude.{Result}
use Rattle.formats.specs.declared.refusals.Refusal.{Refusal}
use Rattle.session.specs.declared.answers.Outcome.{Outcome}
use Rattle.session.specs.Answers.{call_answer, start_answer, advance_answer, read_answer}
use Rattle.session.specs.inner.Steps.{stores_by}
use Rattle.records.specs.Layout.{record_length, step_bytes, encoded}
use Rattle.capi_session.specs.SessionExported.{answer_number, unless_refused, parts_of, finished_of, Places, answered_places}

abbrev pub places : ℕ → ℕ → ℕ → ℕ → ℕ → Places
places a b c d e = record { state = a; yes = b; parts = c; links = d; passed = e }

-- the number and the bytes
pub record Stored (a : Answer) (new b : List ℕ) (r : ℕ) (b' : List ℕ) : Type 0 where
  pub number : r ≡ answer_number a
  pub left : b' ≡ unless_refused a new b

abbrev pub DoneStored : Called → List ℕ → ℕ → List ℕ → Type 0
DoneStored o b r b' = Stored (call_answer o.answer) (encoded o.session) b r b'

pub record StartStored (o : Started) (b : List ℕ) (p r : ℕ) (b' : List ℕ) (p' : ℕ) : Type 0 where
  pub stored : Stored (start_answer o.answer) (encoded o.session) b r b'
  pub parts_after : p' ≡ parts_of (start_answer o.answer) p

-- it stores a state unless it is refused, and there is room for it
pub record AdvanceArgs (t : AdvanceStep) (i : ℕ) (b : List ℕ) : Type 0 where
  pub long : length b ≡ record_length
  pub stores : t.stored ≡ stores_by t.answer
  pub room : t.stored ≡ true → i < part_limit

pub record AdvanceStored (t : AdvanceStep) (i : ℕ) (b : List ℕ) (f r : ℕ) (b' : List ℕ) (f' : ℕ) : Type 0 where
  pub stored : Stored (advance_answer t.answer) (step_bytes t.head i t.state b) b r b'
  pub finished_after : f' ≡ finished_of (advance_answer t.answer) f

pub record ReadStored (a : Result Outcome Refusal) (old : Places) (r : ℕ) (new : Places) : Type 0 where
  pub number : r ≡ answer_number (read_answer a)
  pub values_are : new ≡ answered_places (read_answer a) old
