-- From one Read on every Read is answered as it was, until a call replaces the last finished answer: of the model, so
-- of the three forms of the calls. A refused Read too: it stays refused until an advance finishes.
--     read_is       a Read answers the record's last finished answer, or is refused with 1
--     kept          a call that does not replace it keeps it
--     lasts         so it lasts over a list of calls
--     alike-..      the three forms
use Prim.Native.Nat.{ℕ, zero, suc}
use mathlib.Core.Path.{◌≡◌, refl, sym, ap, ◌∙◌}
use mathlib.Core.Bool.{Bool, true, false, cond}
use mathlib.Core.List.{List, [], ◌∷◌, ◌++◌}
use mathlib.Core.Option.{Option, none, some}
use native.Mathlib.Omega.{arith}
use lib.Dec.{eqb}
use lib.ListN.{length, get_or, replicate}
use Rattle.list_laws.proofs.BoolLaws.{true-false}
use Rattle.tables.specs.declared.answers.Reached.{Reached}
use Rattle.formats.specs.Checks.{first_no}
use Rattle.formats.specs.Inputs.{Inputs}
use Rattle.model.specs.Calls.{Call, load, start, advance, cancel, read, Answer, more, finished, Outcome, Phase}
use Rattle.model.specs.Refusals.{refusal}
use Rattle.model.specs.History.{History, call}
use Rattle.model.specs.Model.{Record, Acted, acted, stage_of, fresh_record, Does, stepped, marks_by, advance_with, part_next}
use Rattle.model.specs.Model.{last_answer, proceeds, unless, act}
use Rattle.reference.specs.Lasting.{ReadTells, replaces, AnswerLasts}
use Rattle.session.specs.Records.{fresh_session}
use Rattle.session.specs.CallsByValue.{CallByValue}
use Rattle.session.proofs.SessionTheorem.{by-value-history}
use Rattle.session.specs.in_place.CallsInPlace.{CallInPlace}
use Rattle.session.proofs.in_place.InPlaceTheorem.{in-place-history}
use Rattle.capi_session.specs.DecodedAnswers.{Exports}
use Rattle.claims.specs.Histories.{ReadsAlike}
use Rattle.claims.proofs.laws.SupersededForms.{bytes-history}

-- ---- one call

read_is : (r : Record) → (act r read).answer ≡ last_answer r.last
unfolding act unless proceeds refusal first_no
read_is r = go r.last refl
  where
    go : (o : Option Outcome) → r.last ≡ o → (act r read).answer ≡ last_answer r.last
    go none e = rw e refl
    go (some o) e = rw e refl

abbrev Kept : Record → Call → Acted → Type 0
Kept r c k = replaces c k.answer ≡ false → k.record'.last ≡ r.last

on-advance : (r : Record) (x : Inputs) (o : Option Reached) → Kept r (advance x) (advance_with r x o)
unfolding advance_with stepped
on-advance r x none f = refl
on-advance r x (some y) f = go (eqb (suc (length r.states)) (length r.roots)) f
  where
    yes : Bool
    yes = eqb (get_or (marks_by r.sizes x) y.state 0) 1

    last : Acted
    last = acted finished (stepped r Phase.answered y yes)

    next : Acted
    next = acted more (stepped r Phase.running y false)

    go : (t : Bool) → replaces (advance x) (cond t last next).answer ≡ false
        → (cond t last next).record'.last ≡ r.last
    go true f = absurd (true-false f)
    go false f = refl

kept : (r : Record) (c : Call) → Kept r c (act r c)
unfolding act unless proceeds
kept r c = go (refusal (stage_of r) c)
  where
    pass : (c : Call) → Kept r c (proceeds r c)
    pass (load x) f = absurd (true-false f)
    pass (start x vs bs) f = refl
    pass (advance x) f = on-advance r x (part_next r x) f
    pass cancel f = refl
    pass read f = refl

    go : (n : ℕ) → Kept r c (unless n r c)
    go zero = pass c
    go (suc n) = λ f. refl

-- the record after a call that does not replace it
kept-after : (r r' : Record) (c : Call) (a : Answer) → Does r c a r' → replaces c a ≡ false → r'.last ≡ r.last
kept-after r r' c a d f =
    ap (λ (t : Record). t.last) d.leaves ∙ kept r c (ap (replaces c) (sym d.tells) ∙ f)

-- ---- lists of calls

lasts : (r : Record) (a : Answer) → a ≡ last_answer r.last → (es : List Call) (zs : List Answer)
    → History Does r es zs → AnswerLasts a es zs
lasts r a e [] zs h = tt
lasts r a e (c ∷ es) [] h = elim h [ ]
lasts r a e (c ∷ es) (z ∷ zs) (call {r'} d h) = (
  one c d,
  λ f. lasts r' a (e ∙ ap last_answer (sym (kept-after r r' c z d f))) es zs h,
)
  where
    one : (c : Call) → Does r c z r' → ReadTells a c z
    one (load x) d = tt
    one (start x vs bs) d = tt
    one (advance x) d = tt
    one cancel d = tt
    one read d = d.tells ∙ read_is r ∙ sym e

splits : (r : Record) (cs ds : List Call) (xs ys : List Answer) → length cs ≡ length xs
    → History Does r (cs ++ ds) (xs ++ ys) → (r' : Record) × History Does r' ds ys
splits r [] ds [] ys e h = (r, h)
splits r [] ds (a ∷ xs) ys e h = absurd (omega arith)
splits r (c ∷ cs) ds [] ys e h = absurd (omega arith)
splits r (c ∷ cs) ds (a ∷ xs) ys e (call {r'} d h) = splits r' cs ds xs ys (omega arith) h

from-read : (r : Record) (a : Answer) (es : List Call) (zs : List Answer) → History Does r (read ∷ es) (a ∷ zs)
    → AnswerLasts a es zs
from-read r a es zs (call {r'} d h) =
    lasts r' a (d.tells ∙ read_is r ∙ ap last_answer (sym (kept-after r r' read a d refl))) es zs h

alike-model : ReadsAlike fresh_record Does
alike-model cs xs a es zs l h =
    let k = splits fresh_record cs (read ∷ es) xs (a ∷ zs) l h in
    from-read k.0 a es zs k.1

-- ---- the three forms

pub alike-by-value : ReadsAlike fresh_session CallByValue
alike-by-value cs xs a es zs l h = alike-model cs xs a es zs l (by-value-history _ _ h)

pub alike-in-place : ReadsAlike fresh_session CallInPlace
alike-in-place cs xs a es zs l h = alike-by-value cs xs a es zs l (in-place-history _ _ h)

pub alike-on-bytes : ReadsAlike (replicate 983 0) Exports
alike-on-bytes cs xs a es zs l h = alike-model cs xs a es zs l (bytes-history _ _ h)
