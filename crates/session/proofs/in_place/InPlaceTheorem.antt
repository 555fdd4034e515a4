-- Demand 3 for the calls in place: every list of calls, from the fresh session, for any inputs, is answered as the
-- reference model (document 01's panel book) says.
--     in-place-questions    a question: an accepted Start had sound inputs; undisturbed: what is answered to it
--     in-place-demand-3     the theorem, over the very promises of load, start, advance, cancel and read in place
--     in-place-history      a history of these calls is one of the calls by value, so what is proved of those holds of it
use mathlib.Core.Path.{◌≡◌, refl, subst}
use mathlib.Core.List.{List}
use Rattle.model.specs.Calls.{Call, Answer}
use Rattle.model.specs.History.{History}
use Rattle.reference.specs.Demand3.{Demand3}
use Rattle.model.proofs.Refinement.{Refines, refines}
use Rattle.session.specs.declared.state.Session.{Session}
use Rattle.session.specs.Records.{fresh_session}
use Rattle.session.specs.CallsByValue as by_value
use Rattle.reference.proofs.QuestionTheorem.{questions-of}
use Rattle.reference.specs.Outcomes.{QuestionsAnswered}
use Rattle.session.proofs.SessionTheorem.{by-value-demand-3, by-value-questions}
use Rattle.session.specs.in_place.CallsInPlace.{CallInPlace, loads, starts, advances, cancels, reads}

-- each call in place is the call by value on the record at entry
step-by-value : (s s' : Session) (c : Call) (a : Answer) → CallInPlace s c a s' → by_value.CallByValue s c a s'
step-by-value s s' c a (loads r node_table state_table d) = by_value.loads (record { answer = r; session = s' }) node_table state_table d
step-by-value s s' c a (starts r d) = by_value.starts (record { answer = r; session = s' }) d
step-by-value s s' c a (advances r d) = by_value.advances (record { answer = r; session = s' }) d
step-by-value s s' c a (cancels r d) = by_value.cancels (record { answer = r; session = s' }) d
step-by-value s s' c a (reads r d) = by_value.reads r d

same-record : Refines CallInPlace by_value.CallByValue (◌≡◌ {A = Session})
same-record s s' t c a e d = (s', subst (λ (u : Session). by_value.CallByValue u c a s') e (step-by-value s s' c a d), refl)

pub in-place-history : (cs : List Call) (xs : List Answer) → History CallInPlace fresh_session cs xs
    → History by_value.CallByValue fresh_session cs xs
in-place-history cs xs h = refines CallInPlace by_value.CallByValue (◌≡◌ {A = Session}) same-record fresh_session fresh_session cs xs refl h

pub in-place-demand-3 : Demand3 fresh_session CallInPlace
in-place-demand-3 cs xs h = by-value-demand-3 cs xs (in-place-history cs xs h)

pub in-place-questions : QuestionsAnswered fresh_session CallInPlace
in-place-questions =
    questions-of CallInPlace by_value.CallByValue (◌≡◌ {A = Session}) same-record fresh_session fresh_session refl by-value-questions
