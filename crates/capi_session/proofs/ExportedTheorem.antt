-- Demand 3 for the session calls on record bytes: every list of calls, from 983 zeros, for any inputs, is answered as
-- the panel book says.
--     exported-demand-3    the theorem, over the very promises of the five exported functions, decoded from numbers and values
--     exported-questions   a question: an accepted Start had sound inputs; undisturbed: parts, advances, the answers
--                          of Reads, ceilings
use lib.ListN.{replicate}
use Rattle.reference.specs.Demand3.{Demand3}
use Rattle.model.specs.Model.{fresh_record, Does}
use Rattle.reference.proofs.Demand3Theorem.{demand_3, demand-3-of}
use Rattle.model.proofs.LayersHold.{layers}
use Rattle.reference.proofs.QuestionTheorem.{question-answered, questions-of}
use Rattle.reference.specs.Outcomes.{QuestionsAnswered}
use Rattle.capi_session.specs.DecodedAnswers.{Exports}
use Rattle.capi_session.proofs.ExportedRefines.{Encodes, exported-refines, fresh-held}

pub exported-demand-3 : Demand3 (replicate 983 0) Exports
exported-demand-3 = demand-3-of Exports Does Encodes exported-refines (replicate 983 0) fresh_record fresh-held (demand_3 layers)

-- a question that Start accepted
pub exported-questions : QuestionsAnswered (replicate 983 0) Exports
exported-questions = questions-of Exports Does Encodes exported-refines (replicate 983 0) fresh_record fresh-held (question-answered layers)
