-- Laws of refusals: their numbers are the enum's own, and none is 0; what `?` hands on is the same number,
-- also of more checks than those that failed; what an answer tells.
use Rattle.std.proofs.Common.{ℕ, zero, suc, ◌≡◌, ◌+◌, refl, sym, ap, ◌∙◌, Result, Ok, Err, arith}
use Rattle.std.proofs.Math.Option.{Option, some, none}
use Rattle.std.specs.Prelude.{List, ◌++◌, IsErrAnd}
use Rattle.formats.specs.Checks.{Check, first_no}
use Rattle.formats.proofs.InputAnswers.{first_part}
use Rattle.formats.specs.Refusals.{refusal_number, refusal_of, answer_number, told, told_as}
use Rattle.formats.specs.declared.refusals.Refusal.{Refusal}
use Rattle.formats.specs.declared.refusals.Refusal.TheVariants.{SessionState, PlanShort, NodeCount, PlanLayout, PlanTree, TableShort, TableCounts, TableLayout, TableEntry, PlanLabel, BufferShort, ListLength, Node, Label, NodeTwice, NotBelow, LentLength, LentValue, PlannerFile, PlannerLabel, PlannerRoom, LaidOver, LabelCounts, StateProduct, Screen, Assignments, ColourStates}
use Rattle.formats.specs.contracts.refusals.Refusal.{the_type}
use denote.Enum.Declared.{tag_of}

pub tag-number : (r : Refusal) → tag_of the_type r + 1 ≡ refusal_number r
tag-number SessionState = refl
tag-number PlanShort = refl
tag-number NodeCount = refl
tag-number PlanLayout = refl
tag-number PlanTree = refl
tag-number TableShort = refl
tag-number TableCounts = refl
tag-number TableLayout = refl
tag-number TableEntry = refl
tag-number PlanLabel = refl
tag-number BufferShort = refl
tag-number ListLength = refl
tag-number Node = refl
tag-number Label = refl
tag-number NodeTwice = refl
tag-number NotBelow = refl
tag-number LentLength = refl
tag-number LentValue = refl
tag-number PlannerFile = refl
tag-number PlannerLabel = refl
tag-number PlannerRoom = refl
tag-number LaidOver = refl
tag-number LabelCounts = refl
tag-number StateProduct = refl
tag-number Screen = refl
tag-number Assignments = refl
tag-number ColourStates = refl

pub number-not-0 : (r : Refusal) → refusal_number r ≡ 0 → ⊥
number-not-0 r e = let t = tag-number r in omega (arith, t, e)

-- what `?` returns where a check failed
pub handed-on : {A : Type 0} (r : Refusal) (a : Result A Refusal) → IsErrAnd a (λ e. e ≡ r) → answer_number a ≡ refusal_number r
handed-on r (Ok x) h = absurd h
handed-on r (Err e) h = ap refusal_number h

pub handed-on-first : {A : Type 0} (xs ys : List Check) (r : Refusal) (a : Result A Refusal) → IsErrAnd a (λ e. e ≡ r)
    → refusal_number r ≡ first_no xs → answer_number a ≡ first_no (xs ++ ys)
handed-on-first xs ys r a h e = handed-on r a h ∙ first_part xs ys _ e (number-not-0 r)

pub told-number : {A : Type 0} (a : Result A Refusal) (n : ℕ) (x : A) → told a ≡ told_as n x → answer_number a ≡ n
told-number (Ok y) zero x e = refl
told-number (Ok y) (suc n) x e = ap (λ t. t.0) e
told-number (Err r) zero x e = ap (λ t. t.0) e
told-number (Err r) (suc n) x e = ap (λ t. t.0) e

-- where a check failed
pub told-refused : {A : Type 0} (r : Refusal) (n : ℕ) (x : A) → refusal_number r ≡ n → told (Err r) ≡ told_as n x
told-refused r zero x e = absurd (number-not-0 r e)
told-refused r (suc n) x e = ap (λ (k : ℕ). (k, none)) e

-- where none failed
pub told-answered : {A : Type 0} (n : ℕ) (x : A) → n ≡ 0 → told (Ok x) ≡ told_as n x
told-answered zero x e = refl
told-answered (suc n) x e = absurd (omega arith)

-- the value that is told, and x where none is
value-of : {A : Type 0} → A → Option A → A
value-of x (some y) = y
value-of x none = x

-- 1 where a value is told
has-value : {A : Type 0} → Option A → ℕ
has-value (some y) = 1
has-value none = 0

-- a value is told only where no check failed
pub value-told : {A : Type 0} (y : A) (n : ℕ) (x : A) → told (Ok y) ≡ told_as n x → (n ≡ 0) × (x ≡ y)
unfolding value-of has-value
value-told y zero x e = (refl, sym (ap (λ t. value-of x t.1) e))
value-told y (suc n) x e = let z : ◌≡◌ {A = ℕ} 1 0 = ap (λ t. has-value t.1) e in absurd (omega arith)

-- where no check failed an answer is the value that it tells
pub told-value : {A : Type 0} (a : Result A Refusal) (n : ℕ) (x : A) → told a ≡ told_as n x → n ≡ 0 → a ≡ Ok x
told-value (Ok y) n x e z = ap Ok (sym (value-told y n x e).1)
told-value (Err r) zero x e z = absurd (number-not-0 r (ap (λ t. t.0) e))
told-value (Err r) (suc n) x e z = absurd (omega arith)

-- the number decides the refusal
pub of-number : (r : Refusal) → refusal_of (refusal_number r) ≡ r
of-number SessionState = refl
of-number PlanShort = refl
of-number NodeCount = refl
of-number PlanLayout = refl
of-number PlanTree = refl
of-number TableShort = refl
of-number TableCounts = refl
of-number TableLayout = refl
of-number TableEntry = refl
of-number PlanLabel = refl
of-number BufferShort = refl
of-number ListLength = refl
of-number Node = refl
of-number Label = refl
of-number NodeTwice = refl
of-number NotBelow = refl
of-number LentLength = refl
of-number LentValue = refl
of-number PlannerFile = refl
of-number PlannerLabel = refl
of-number PlannerRoom = refl
of-number LaidOver = refl
of-number LabelCounts = refl
of-number StateProduct = refl
of-number Screen = refl
of-number Assignments = refl
of-number ColourStates = refl

pub number-decides : (r q : Refusal) → refusal_number r ≡ refusal_number q → r ≡ q
number-decides r q e = sym (of-number r) ∙ ap refusal_of e ∙ of-number q

-- what tells an accepted call's number, or a refusal's, tells the answer
pub number-tells : (a : Result Unit Refusal) (n : ℕ) (x : Unit) → answer_number a ≡ n → told a ≡ told_as n x
number-tells (Ok y) zero x e = refl
number-tells (Ok y) (suc n) x e = absurd (omega (arith, e))
number-tells (Err r) zero x e = absurd (number-not-0 r e)
number-tells (Err r) (suc n) x e = ap (λ (k : ℕ). (k, none)) e
