-- Lists of calls that are the same once each question's list is superseded have the same answers, in the three forms.
--     history-answers     the answers of a history of the model are those that it computes
--     bytes-history       a history on record bytes is one of the model
--     superseded-..       of the calls as listed, and with each question's list superseded
--     any-order-..        of two lists of calls whose lists supersede to the same
--     permuted-superseded   two lists without repeats, one the other in another order, do
use Prim.Native.Nat.{ℕ}
use mathlib.Core.Path.{◌≡◌, refl, sym, ap, ap₂, ◌∙◌}
use mathlib.Core.Bool.{true}
use mathlib.Core.List.{List, [], ◌∷◌, zip, Permᴰ}
use lib.ListN.{length, replicate}
use Rattle.list_laws.specs.Tests.{distinct}
use Rattle.changes.specs.Entries.{entries, superseded}
use Rattle.changes.proofs.LaidLaws.{superseded-only, superseded-rises, superseded-labels}
use Rattle.model.specs.Calls.{Call, Answer}
use Rattle.model.specs.History.{History, done, call}
use Rattle.model.specs.Model.{Record, fresh_record, Does}
use Rattle.model.proofs.Refinement.{refines}
use Rattle.reference.specs.AgreementTest.{answers_of}
use Rattle.reference.specs.Superseding.{superseded_calls}
use Rattle.reference.proofs.SupersedingLaws.{superseding-tells}
use Rattle.reference.proofs.OrderLaws.{last-order}
use Rattle.session.specs.Records.{fresh_session}
use Rattle.session.specs.CallsByValue.{CallByValue}
use Rattle.session.proofs.SessionTheorem.{by-value-history}
use Rattle.session.specs.in_place.CallsInPlace.{CallInPlace}
use Rattle.session.proofs.in_place.InPlaceTheorem.{in-place-history}
use Rattle.capi_session.specs.DecodedAnswers.{Exports}
use Rattle.capi_session.proofs.ExportedRefines.{Encodes, exported-refines, fresh-held}
use Rattle.claims.specs.Histories.{Superseded, AnyOrder}

pub history-answers : (r : Record) (cs : List Call) (xs : List Answer) → History Does r cs xs → xs ≡ answers_of r cs
unfolding answers_of
history-answers r [] [] done = refl
history-answers r [] (x ∷ xs) h = elim h [ ]
history-answers r (c ∷ cs) [] h = elim h [ ]
history-answers r (c ∷ cs) (x ∷ xs) (call {r' = s} d h) =
    ap₂ (λ (a : Answer) (l : List Answer). a ∷ l) d.tells
    (history-answers s cs xs h ∙ ap (λ (t : Record). answers_of t cs) d.leaves)

pub bytes-history : (cs : List Call) (xs : List Answer) → History Exports (replicate 983 0) cs xs
    → History Does fresh_record cs xs
bytes-history cs xs h =
    refines Exports Does Encodes exported-refines (replicate 983 0) fresh_record cs xs fresh-held h

-- ---- as listed, and superseded

superseded-model : Superseded fresh_record Does
superseded-model cs xs ys h k =
    history-answers fresh_record (superseded_calls fresh_record cs) ys k ∙ superseding-tells cs
    ∙ sym (history-answers fresh_record cs xs h)

pub superseded-by-value : Superseded fresh_session CallByValue
superseded-by-value cs xs ys h k =
    superseded-model cs xs ys (by-value-history cs xs h) (by-value-history (superseded_calls fresh_record cs) ys k)

pub superseded-in-place : Superseded fresh_session CallInPlace
superseded-in-place cs xs ys h k =
    superseded-by-value cs xs ys (in-place-history cs xs h) (in-place-history (superseded_calls fresh_record cs) ys k)

pub superseded-exported : Superseded (replicate 983 0) Exports
superseded-exported cs xs ys h k =
    superseded-model cs xs ys (bytes-history cs xs h) (bytes-history (superseded_calls fresh_record cs) ys k)

-- ---- lists of calls that supersede to the same

any-order-model : AnyOrder fresh_record Does
any-order-model cs ds xs ys e h k =
    history-answers fresh_record cs xs h ∙ sym (superseding-tells cs) ∙ ap (answers_of fresh_record) e
    ∙ superseding-tells ds ∙ sym (history-answers fresh_record ds ys k)

pub any-order-by-value : AnyOrder fresh_session CallByValue
any-order-by-value cs ds xs ys e h k =
    any-order-model cs ds xs ys e (by-value-history cs xs h) (by-value-history ds ys k)

pub any-order-in-place : AnyOrder fresh_session CallInPlace
any-order-in-place cs ds xs ys e h k =
    any-order-by-value cs ds xs ys e (in-place-history cs xs h) (in-place-history ds ys k)

pub any-order-on-bytes : AnyOrder (replicate 983 0) Exports
any-order-on-bytes cs ds xs ys e h k = any-order-model cs ds xs ys e (bytes-history cs xs h) (bytes-history ds ys k)

pub permuted-superseded : (vs bs ws cs : List ℕ) → length vs ≡ length bs → length ws ≡ length cs
    → Permᴰ (zip vs bs) (zip ws cs) → distinct vs ≡ true → superseded (entries vs bs) ≡ superseded (entries ws cs)
permuted-superseded vs bs ws cs g h d u =
    superseded-only (entries ws cs) (superseded (entries vs bs)) (superseded-rises (entries vs bs))
    (λ v. superseded-labels (entries vs bs) v ∙ last-order vs bs ws cs g h d u v)
