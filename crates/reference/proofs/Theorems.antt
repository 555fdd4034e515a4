-- The crate's theorems about the session's calls, with nothing left to assume.
--     model-demand-3    every list of calls, from a fresh record, is answered as the reference model (document 01's
--                       panel book) says, for any inputs
--     start-settled     nothing about Start is left to the program
--     model-questions   one question: an accepted Start had sound inputs; undisturbed: parts, advances, what Reads
--                       return, ceilings
--     model-agrees      so the model's own answers agree with the reference model
-- The order of a list is outcome-order and start-order (QuestionTheorem, OrderLaws); that the premises can be met is
-- written-sound and start-written (WrittenSound), and Controls.
use Prim.Native.Nat.{ℕ, zero, suc}
use mathlib.Core.Path.{◌≡◌, refl}
use mathlib.Core.List.{List}
use Rattle.formats.specs.Inputs.{Inputs}
use Rattle.model.specs.Calls.{Call, start, Answer, refused, parts}
use Rattle.model.specs.Refusals.{refusal}
use Rattle.reference.specs.Reference.{Reference, State, settled, stage_of, new_reference, in_state, step, decided, proceed, starting}
use Rattle.reference.specs.Reference.{part_count, asked}
use Rattle.reference.specs.Demand3.{Agrees, Demand3}
use Rattle.model.specs.Model.{fresh_record, Does}
use Rattle.reference.specs.AgreementTest.{answers_of}
use Rattle.reference.proofs.Demand3Theorem.{demand_3}
use Rattle.model.proofs.LayersHold.{layers}
use Rattle.reference.proofs.QuestionTheorem.{question-answered}
use Rattle.reference.specs.Outcomes.{QuestionsAnswered}
use Rattle.reference.proofs.AgreementTestLaws.{history-of}

pub model-demand-3 : Demand3 fresh_record Does
model-demand-3 = demand_3 layers

-- "Nothing about Start is left to the program then": the reference model's reply to a Start is settled, for any inputs
pub start-settled : (b : Reference) (x : Inputs) (vs bs : List ℕ) → (a : Answer) × (b' : Reference) × (step b (start x vs bs) ≡ settled a b')
unfolding step decided proceed starting
start-settled b x vs bs = go (refusal (stage_of b) (start x vs bs))
  where
    go : (n : ℕ) → (a : Answer) × (b' : Reference) × (decided n b (start x vs bs) ≡ settled a b')
    go zero = (parts (part_count (asked x vs bs)), in_state b (State.running (asked x vs bs)), refl)
    go (suc n) = (refused (suc n), b, refl)

pub model-questions : QuestionsAnswered fresh_record Does
model-questions = question-answered layers

pub model-agrees : (cs : List Call) → Agrees new_reference cs (answers_of fresh_record cs)
model-agrees cs = model-demand-3 cs (answers_of fresh_record cs) (history-of fresh_record cs)
