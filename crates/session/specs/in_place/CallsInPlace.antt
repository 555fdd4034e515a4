-- The calls in place as one relation, for the statement about every list of calls.
--
-- CallInPlace s c a s' == call c was made on the record s in place, returned a and left s' there: its promise, as
--   its function has it, holds
--
-- Read takes the record by `&`, so it leaves it as it was.
use Rattle.std.specs.Prelude.{ℕ, ◌≡◌, List}
use Rattle.formats.specs.Inputs.{Inputs}
use Rattle.model.specs.Calls.{Call, load, start, advance, cancel, read, Answer}
use Rattle.std.specs.Prelude.{Result, Ok, Err}
use Rattle.formats.specs.declared.refusals.Refusal.{Refusal}
use Rattle.session.specs.declared.answers.Progress.{Progress}
use Rattle.session.specs.declared.answers.Outcome.{Outcome}
use Rattle.session.specs.declared.state.Session.{Session}
use Rattle.session.specs.Answers.{call_answer, start_answer, advance_answer, read_answer}
use Rattle.session.specs.Promises.{CallDone, LoadDone, answer_on}

pub data CallInPlace : Session → Call → Answer → Session → Type 0 where
  loads : {s s' : Session} {x : Inputs} (r : Result Unit Refusal) (node_table state_table : List ℕ) → LoadDone s x (call_answer r) s' node_table state_table
      → CallInPlace s (load x) (call_answer r) s'
  starts : {s s' : Session} {x : Inputs} {vs bs : List ℕ} (r : Result ℕ Refusal) → CallDone s (start x vs bs) (start_answer r) s'
      → CallInPlace s (start x vs bs) (start_answer r) s'
  advances : {s s' : Session} {x : Inputs} (r : Result Progress Refusal) → CallDone s (advance x) (advance_answer r) s'
      → CallInPlace s (advance x) (advance_answer r) s'
  cancels : {s s' : Session} (r : Result Unit Refusal) → CallDone s cancel (call_answer r) s' → CallInPlace s cancel (call_answer r) s'
  reads : {s : Session} (r : Result Outcome Refusal) → read_answer r ≡ answer_on s read → CallInPlace s read (read_answer r) s
