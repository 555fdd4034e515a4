-- The answers of the calls, as document 01 compares them (crate model, specs/Calls).
--
-- call_answer, start_answer, advance_answer, read_answer == the answer of a call: its number and values.
--   Load and Cancel, Start, advance, Read
use Rattle.model.specs.Calls.{Answer, refused, accepted, parts, more, finished, outcome_answer}
use Rattle.std.specs.Prelude.{ℕ, Result, Ok, Err}
use Rattle.formats.specs.Refusals.{refusal_number}
use Rattle.formats.specs.declared.refusals.Refusal.{Refusal}
use Rattle.session.specs.declared.answers.Progress.{Progress}
use Rattle.session.specs.declared.answers.Progress.TheVariants.{More, Finished}
use Rattle.session.specs.declared.answers.Outcome.{Outcome}

unfoldable pub call_answer : Result Unit Refusal → Answer
call_answer (Ok u) = accepted
call_answer (Err r) = refused (refusal_number r)

unfoldable pub start_answer : Result ℕ Refusal → Answer
start_answer (Ok p) = parts p
start_answer (Err r) = refused (refusal_number r)

unfoldable pub advance_answer : Result Progress Refusal → Answer
advance_answer (Ok More) = more
advance_answer (Ok Finished) = finished
advance_answer (Err r) = refused (refusal_number r)

unfoldable pub read_answer : Result Outcome Refusal → Answer
read_answer (Ok o) = outcome_answer o.state o.yes o.parts o.links o.passed
read_answer (Err r) = refused (refusal_number r)
