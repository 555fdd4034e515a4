-- The last finished answer over lists of calls (document 02, S-1).
--
-- ReadTells a c z == if call c is a Read, its answer z is a
-- finishes c z == call c is an advance that answered finished
-- replaces c z == it is that, or an accepted Load: from then on the last finished answer is another one, or none
-- AnswerLasts a cs zs == every Read of the calls cs returns a, until a call that replaces it
-- NoAnswerYet cs zs == every Read is refused with 1, until an advance finishes
-- SameButReads cs xs ys == the answers xs and ys to the calls cs are the same, except for Reads before the first call
--   that replaces the last finished answer
-- AnswersLast, NoAnswersYet, AsAnew == these in every history from the fresh record, for any form of the calls
use Rattle.std.specs.Prelude.{ℕ, ◌≡◌, Bool, true, false, not, List, [], ◌∷◌, ◌++◌, length}
use Rattle.formats.specs.Inputs.{Inputs, sizes_in}
use Rattle.model.specs.Calls.{Call, load, start, advance, cancel, read, Answer, refused, parts, finished, on_advance, is_refused}
use Rattle.model.specs.History.{History}
use Rattle.reference.specs.Reference.{new_reference, fresh_answer, asked}
use Rattle.reference.specs.Undisturbed.{reference_at, Undisturbed}

abbrev pub ReadTells : Answer → Call → Answer → Type 0
ReadTells a (load x) z = Unit {0}
ReadTells a (start x vs bs) z = Unit {0}
ReadTells a (advance x) z = Unit {0}
ReadTells a cancel z = Unit {0}
ReadTells a read z = z ≡ a

-- "filled by the advance that finishes"
abbrev pub finishes : Call → Answer → Bool
finishes (load x) z = false
finishes (start x vs bs) z = false
finishes (advance x) z = on_advance false true false z
finishes cancel z = false
finishes read z = false

-- "and emptied by an accepted Load"
abbrev pub replaces : Call → Answer → Bool
replaces (load x) z = not (is_refused z)
replaces (start x vs bs) z = false
replaces (advance x) z = on_advance false true false z
replaces cancel z = false
replaces read z = false

abbrev pub AnswerLasts : Answer → List Call → List Answer → Type 0
AnswerLasts a [] zs = Unit {0}
AnswerLasts a (c ∷ cs) [] = Unit {0}
AnswerLasts a (c ∷ cs) (z ∷ zs) = ReadTells a c z × (replaces c z ≡ false → AnswerLasts a cs zs)

abbrev pub NoAnswerYet : List Call → List Answer → Type 0
NoAnswerYet [] zs = Unit {0}
NoAnswerYet (c ∷ cs) [] = Unit {0}
NoAnswerYet (c ∷ cs) (z ∷ zs) = ReadTells (refused 1) c z × (finishes c z ≡ false → NoAnswerYet cs zs)

abbrev pub SameUnlessRead : Call → Answer → Answer → Type 0
SameUnlessRead (load x) a b = a ≡ b
SameUnlessRead (start x vs bs) a b = a ≡ b
SameUnlessRead (advance x) a b = a ≡ b
SameUnlessRead cancel a b = a ≡ b
SameUnlessRead read a b = Unit {0}

abbrev pub SameButReads : List Call → List Answer → List Answer → Type 0
SameButReads [] xs ys = Unit {0}
SameButReads (c ∷ cs) [] ys = Unit {0}
SameButReads (c ∷ cs) (a ∷ xs) [] = Unit {0}
SameButReads (c ∷ cs) (a ∷ xs) (b ∷ ys) =
    SameUnlessRead c a b × (replaces c a ≡ true → xs ≡ ys) × (replaces c a ≡ false → SameButReads cs xs ys)

-- ---- of every history

-- a question that Start accepted, undisturbed up to the advance that finished it: "if so, Read tells in every state
-- what 01 has for that question, whatever was started or cancelled since". cs and xs are the calls and answers before
-- the Start, ds and ys those between the Start and that advance, es and zs those after it
abbrev pub AnswersLast : {Record : Type 0} → Record → (Record → Call → Answer → Record → Type 0) → Type 0
AnswersLast fresh Step = (cs : List Call) (xs : List Answer) (x : Inputs) (vs bs : List ℕ) (n : ℕ) (ds : List Call) (ys : List Answer)
    (w : Inputs) (es : List Call) (zs : List Answer) → length cs ≡ length xs → length ds ≡ length ys
    → Undisturbed (reference_at new_reference cs xs).sizes x (ds ++ (advance w ∷ [])) (ys ++ (finished ∷ []))
    → History Step fresh (cs ++ (start x vs bs ∷ (ds ++ (advance w ∷ es)))) (xs ++ (parts n ∷ (ys ++ (finished ∷ zs))))
    → AnswerLasts (fresh_answer (asked x vs bs)) es zs

-- "and gives 1 otherwise": from the fresh record on, and from every accepted Load on
abbrev pub NoAnswersYet : {Record : Type 0} → Record → (Record → Call → Answer → Record → Type 0) → Type 0
NoAnswersYet fresh Step =
    ((cs : List Call) (xs : List Answer) → History Step fresh cs xs → NoAnswerYet cs xs)
    × ((cs : List Call) (xs : List Answer) (x : Inputs) (ds : List Call) (ys : List Answer) → length cs ≡ length xs
    → History Step fresh (cs ++ (load x ∷ ds)) (xs ++ (Answer.accepted ∷ ys)) → NoAnswerYet ds ys)

-- "Loaded after Cancel .. equals it in all but that answer, and a question started then must still end as in a new
-- session": the calls ds after an accepted Cancel, and the same calls after a first Load with the same N, S and K
abbrev pub AsAnew : {Record : Type 0} → Record → (Record → Call → Answer → Record → Type 0) → Type 0
AsAnew fresh Step = (cs : List Call) (xs : List Answer) (x : Inputs) (ds : List Call) (ys zs : List Answer) → length cs ≡ length xs
    → sizes_in x ≡ (reference_at new_reference cs xs).sizes → History Step fresh (cs ++ (cancel ∷ ds)) (xs ++ (Answer.accepted ∷ ys))
    → History Step fresh (load x ∷ ds) (Answer.accepted ∷ zs) → SameButReads ds ys zs
