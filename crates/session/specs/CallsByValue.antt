-- The five calls as one relation, for the statement about every list of calls.
--
-- CallByValue s c a s' == call c was made on struct s, answered a and left s': its promise, as its function has it,
--   holds of what it returned
--
-- Read returns no record: the panel keeps the one that it has.
use Rattle.std.specs.Prelude.{ℕ, ◌≡◌, List}
use Rattle.formats.specs.Inputs.{Inputs}
use Rattle.model.specs.Calls.{Call, load, start, advance, cancel, read, Answer}
use Rattle.std.specs.Prelude.{Result, Ok, Err}
use Rattle.formats.specs.declared.refusals.Refusal.{Refusal}
use Rattle.session.specs.declared.answers.Outcome.{Outcome}
use Rattle.session.specs.declared.state.Session.{Session}
use Rattle.session.specs.declared.answers.Called.{Called}
use Rattle.session.specs.declared.answers.Started.{Started}
use Rattle.session.specs.declared.answers.Advanced.{Advanced}
use Rattle.session.specs.Answers.{call_answer, start_answer, advance_answer, read_answer}
use Rattle.session.specs.Promises.{CallDone, LoadDone, answer_on}

pub data CallByValue : Session → Call → Answer → Session → Type 0 where
  loads : {s : Session} {x : Inputs} (o : Called) (node_table state_table : List ℕ) → LoadDone s x (call_answer o.answer) o.session node_table state_table
      → CallByValue s (load x) (call_answer o.answer) o.session
  starts : {s : Session} {x : Inputs} {vs bs : List ℕ} (o : Started) → CallDone s (start x vs bs) (start_answer o.answer) o.session
      → CallByValue s (start x vs bs) (start_answer o.answer) o.session
  advances : {s : Session} {x : Inputs} (o : Advanced) → CallDone s (advance x) (advance_answer o.answer) o.session
      → CallByValue s (advance x) (advance_answer o.answer) o.session
  cancels : {s : Session} (o : Called) → CallDone s cancel (call_answer o.answer) o.session → CallByValue s cancel (call_answer o.answer) o.session
  reads : {s : Session} (a : Result Outcome Refusal) → read_answer a ≡ answer_on s read → CallByValue s read (read_answer a) s
