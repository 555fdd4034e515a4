-- Demand 3 for the session's calls: every list of calls, from the fresh session, for any inputs, is answered as the
-- reference model (document 01's panel book) says.
--     by-value-demand-3     the theorem, over the very promises of load, start, advance, cancel and read
--     by-value-questions    a question: an accepted Start had sound inputs; undisturbed: parts, advances, the answers
--                           of Reads, ceilings
--     by-value-history      a history of these calls is one of the model's, so what is proved of those holds of it
use mathlib.Core.List.{List}
use Rattle.model.specs.Calls.{Call, Answer}
use Rattle.model.specs.History.{History}
use Rattle.reference.specs.Demand3.{Demand3}
use Rattle.model.specs.Model.{fresh_record, Does}
use Rattle.reference.proofs.Demand3Theorem.{demand_3, demand-3-of}
use Rattle.model.proofs.Refinement.{refines}
use Rattle.model.proofs.LayersHold.{layers}
use Rattle.reference.proofs.QuestionTheorem.{question-answered, questions-of}
use Rattle.reference.specs.Outcomes.{QuestionsAnswered}
use Rattle.session.specs.Records.{fresh_session}
use Rattle.session.specs.CallsByValue.{CallByValue}
use Rattle.session.proofs.Refine.{Represents, fresh-seen, by-value-refines}

pub by-value-history : (cs : List Call) (xs : List Answer) → History CallByValue fresh_session cs xs → History Does fresh_record cs xs
by-value-history cs xs h = refines CallByValue Does Represents by-value-refines fresh_session fresh_record cs xs fresh-seen h

pub by-value-demand-3 : Demand3 fresh_session CallByValue
by-value-demand-3 = demand-3-of CallByValue Does Represents by-value-refines fresh_session fresh_record fresh-seen (demand_3 layers)

pub by-value-questions : QuestionsAnswered fresh_session CallByValue
by-value-questions = questions-of CallByValue Does Represents by-value-refines fresh_session fresh_record fresh-seen (question-answered layers)
