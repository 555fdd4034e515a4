-- Which answers belong to which call.
--
-- Own c a == a is a refusal, or an answer of the kind that call c gives when it is accepted: for Load and Cancel just
--   accepted, for Start its parts, for an advance more or finished, for Read an outcome
use Rattle.std.specs.Prelude.{ℕ, List}
use Rattle.formats.specs.Inputs.{Inputs}
use Rattle.model.specs.Calls.{Call, load, start, advance, cancel, read, Answer, refused, parts, more, finished, Outcome, outcome}

pub data OwnAnswer : Call → Answer → Type 0 where
  refuses : {c : Call} (n : ℕ) → OwnAnswer c (refused n)
  loads : {x : Inputs} → OwnAnswer (load x) Answer.accepted
  starts : {x : Inputs} {vs bs : List ℕ} (p : ℕ) → OwnAnswer (start x vs bs) (parts p)
  goes_on : {x : Inputs} → OwnAnswer (advance x) more
  finishes : {x : Inputs} → OwnAnswer (advance x) finished
  cancels : OwnAnswer cancel Answer.accepted
  reads : (o : Outcome) → OwnAnswer read (outcome o)
