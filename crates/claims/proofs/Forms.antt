-- Demands 1 and 2, and what Load leaves in the tables, of the calls by value and in place. On record bytes: Main.
--     refusals, refusals-in-place               demand 1
--     start-18, start-18-in-place               document 02, S-11
--     undisturbed-by-value, undisturbed-in-place   demand 2, of a question that Start accepted
--     tables-after-load                         demand 3's last sentence; load by value and in place promise LoadDone
use Prim.Native.Nat.{ℕ}
use mathlib.Core.Path.{◌≡◌}
use mathlib.Core.Bool.{true}
use mathlib.Core.List.{List}
use Rattle.formats.specs.Inputs.{Inputs}
use Rattle.model.specs.Calls.{Call, start, Answer, is_refused}
use Rattle.reference.specs.Outcomes.{QuestionsAnswered}
use Rattle.session.specs.declared.state.Session.{Session}
use Rattle.session.specs.Records.{record_of, valid, fresh_session}
use Rattle.session.specs.Promises.{LoadDone}
use Rattle.session.specs.CallsByValue.{CallByValue}
use Rattle.session.proofs.SessionTheorem.{by-value-questions}
use Rattle.session.specs.in_place.CallsInPlace.{CallInPlace}
use Rattle.session.proofs.in_place.InPlaceTheorem.{in-place-questions}
use Rattle.claims.specs.Refusals.{RefusedInOrder, Start18}
use Rattle.claims.specs.Lent.{TablesAfterLoad}
use Rattle.claims.proofs.laws.RefusalLaws as refusal
use Rattle.claims.proofs.laws.LoadTables.{tables-by-value}

-- ---- "Malformed input, short buffers, table values that lead outside and calls that the session's state forbids are
-- refused first, by number, in a fixed order; a refusal alters nothing; everything else is accepted; every call ends."

refusals : (s s' : Session) (c : Call) (a : Answer) → CallByValue s c a s' → RefusedInOrder s c a s'
refusals = refusal.refused-in-order

refusals-in-place : (s s' : Session) (c : Call) (a : Answer) → CallInPlace s c a s' → RefusedInOrder s c a s'
refusals-in-place = refusal.refused-in-place

-- ---- "give 18 at its old place exactly when the tables aren't what the build writes from that plan and those rules,
-- or when these no longer pass 2 to 10 or name another N, S or K than the record"

start-18 : (s s' : Session) (x : Inputs) (vs bs : List ℕ) (a : Answer) → CallByValue s (start x vs bs) a s'
    → valid s ≡ true → Start18 (record_of s) x vs bs a
start-18 = refusal.start-refused-18

start-18-in-place : (s s' : Session) (x : Inputs) (vs bs : List ℕ) (a : Answer) → CallInPlace s (start x vs bs) a s'
    → valid s ≡ true → Start18 (record_of s) x vs bs a
start-18-in-place = refusal.start-18-in-place

-- ---- "On tables as built, a finished answer is the automaton's run on the changed plan (source document 002)"

undisturbed-by-value : QuestionsAnswered fresh_session CallByValue
undisturbed-by-value = by-value-questions

undisturbed-in-place : QuestionsAnswered fresh_session CallInPlace
undisturbed-in-place = in-place-questions

-- ---- "Everything lent beside the record holds what it held, save the tables an accepted Load writes as defined"

tables-after-load : (s s' : Session) (x : Inputs) (a : Answer) (node_table' state_table' : List ℕ)
    → LoadDone s x a s' node_table' state_table' → TablesAfterLoad x (is_refused a) node_table' state_table'
tables-after-load = tables-by-value
