-- Document 02, S-1: "The last finished answer survives a Cancel", in the three forms of the calls.
--     lasts-..          the answer of a question that was clean at its finish: Read returns it in every state
--     alike-..          clean or not: every Read returns what the Read before it did
--     none-..           before the first finish, and after every accepted Load, Read gives 1
--     anew-..           after a Cancel every call is answered as in a new session, except for earlier Reads
--     cancel-leaves, cancel-leaves-in-place, cancel-leaves-bytes    the record after a Cancel: as after a first Load,
--                       in all but that answer
-- Where each word of a statement is defined: reference/specs/Lasting; `ReadsAlike`: specs/Histories. What an unclean
-- finish leaves to the program: demand 3 (Main), by reference/specs/Reference.
use Prim.Native.Nat.{ℕ}
use mathlib.Core.Path.{◌≡◌}
use mathlib.Core.List.{List}
use lib.ListN.{replicate}
use Rattle.model.specs.Calls.{cancel, Answer}
use Rattle.model.specs.Model.{fresh_record, loaded_record, with_last, Does}
use Rattle.model.proofs.LayersHold.{layers}
use Rattle.reference.specs.Lasting.{AnswersLast, NoAnswersYet, AsAnew}
use Rattle.reference.proofs.LastingTheorem.{answer-lasts, no-answer-yet, lasts-of, none_of}
use Rattle.reference.proofs.AnewTheorem.{as-anew, anew-of}
use Rattle.session.specs.declared.state.Session.{Session}
use Rattle.session.specs.Records.{record_of, session_of, fresh_session}
use Rattle.session.specs.CallsByValue.{CallByValue}
use Rattle.session.proofs.Refine.{Represents, fresh-seen, by-value-refines}
use Rattle.session.specs.in_place.CallsInPlace.{CallInPlace}
use Rattle.session.proofs.in_place.InPlaceTheorem.{in-place-history}
use Rattle.records.specs.Layout.{encoded, decoded}
use Rattle.capi_session.specs.DecodedAnswers.{Exports}
use Rattle.capi_session.proofs.ExportedRefines.{Encodes, exported-refines, fresh-held}
use Rattle.claims.specs.Histories.{ReadsAlike}
use Rattle.claims.proofs.laws.ReadsAlikeLaws as alike
use Rattle.claims.proofs.laws.LoadedRecords as records

-- ---- "if so, Read tells in every state what 01 has for that question, whatever was started or cancelled since"

lasts-by-value : AnswersLast fresh_session CallByValue
lasts-by-value =
    lasts-of CallByValue Does Represents by-value-refines fresh_session fresh_record fresh-seen (answer-lasts layers)

lasts-in-place : AnswersLast fresh_session CallInPlace
lasts-in-place cs xs x vs bs n ds ys w es zs l c u h =
    lasts-by-value cs xs x vs bs n ds ys w es zs l c u (in-place-history _ _ h)

lasts-on-bytes : AnswersLast (replicate 983 0) Exports
lasts-on-bytes =
    lasts-of Exports Does Encodes exported-refines (replicate 983 0) fresh_record fresh-held (answer-lasts layers)

-- ---- "The last finished answer survives a Cancel.": from one Read on, of a clean question or not, every Read is
-- answered as it was, until an advance finishes or a Load is accepted; a refused Read too

alike-by-value : ReadsAlike fresh_session CallByValue
alike-by-value = alike.alike-by-value

alike-in-place : ReadsAlike fresh_session CallInPlace
alike-in-place = alike.alike-in-place

alike-on-bytes : ReadsAlike (replicate 983 0) Exports
alike-on-bytes = alike.alike-on-bytes

-- ---- "Read is allowed in every state once such an answer is there, and gives 1 otherwise."

none-by-value : NoAnswersYet fresh_session CallByValue
none-by-value =
    none_of CallByValue Does Represents by-value-refines fresh_session fresh_record fresh-seen (no-answer-yet layers)

none-in-place : NoAnswersYet fresh_session CallInPlace
none-in-place = (
  λ cs xs h. none-by-value.0 cs xs (in-place-history _ _ h),
  λ cs xs x ds ys l h. none-by-value.1 cs xs x ds ys l (in-place-history _ _ h),
)

none-on-bytes : NoAnswersYet (replicate 983 0) Exports
none-on-bytes =
    none_of Exports Does Encodes exported-refines (replicate 983 0) fresh_record fresh-held (no-answer-yet layers)

-- ---- "and a question started then must still end as in a new session"

anew-by-value : AsAnew fresh_session CallByValue
anew-by-value = anew-of CallByValue Does Represents by-value-refines fresh_session fresh_record fresh-seen (as-anew layers)

anew-in-place : AsAnew fresh_session CallInPlace
anew-in-place cs xs x ds ys zs l s h k =
    anew-by-value cs xs x ds ys zs l s (in-place-history _ _ h) (in-place-history _ _ k)

anew-on-bytes : AsAnew (replicate 983 0) Exports
anew-on-bytes = anew-of Exports Does Encodes exported-refines (replicate 983 0) fresh_record fresh-held (as-anew layers)

-- ---- "Loaded after Cancel therefore no longer equals the record after a first Load: it equals it in all but that
-- answer"

cancel-leaves : (s s' : Session) (a : Answer) → CallByValue s cancel a s' → a ≡ Answer.accepted
    → s' ≡ session_of (with_last (record_of s).last (loaded_record (record_of s).sizes))
cancel-leaves = records.value-after-cancel

cancel-leaves-in-place : (s s' : Session) (a : Answer) → CallInPlace s cancel a s' → a ≡ Answer.accepted
    → s' ≡ session_of (with_last (record_of s).last (loaded_record (record_of s).sizes))
cancel-leaves-in-place = records.place-after-cancel

cancel-leaves-bytes : (b b' : List ℕ) (a : Answer) → Exports b cancel a b' → a ≡ Answer.accepted
    → b' ≡ encoded (session_of (with_last (record_of (decoded b)).last (loaded_record (record_of (decoded b)).sizes)))
cancel-leaves-bytes = records.after-cancel
