-- Refusals by their numbers.
--
-- refusal_number r == the number of a refusal in the interface (docs/REFUSALS.md)
-- refusal_of n == the refusal with number n, where n is one; LentValue for any other
-- number_by f a == 0 where a call is accepted, else the number that f gives its refusal
-- answer_number a == 0 where a call is accepted, else the number of its refusal
-- told a == the number and the values of an answer, as document 01 has them
-- told_as n x == what is told where the first failing check is n (0: none) and x is what is answered
use Rattle.std.specs.Prelude.{ℕ, zero, suc, List, [], ◌∷◌, Result, Ok, Err}
use Rattle.std.proofs.Math.Option.{Option, none, some}
use Rattle.formats.specs.declared.refusals.Refusal.{Refusal}
use Rattle.formats.specs.declared.refusals.Refusal.TheVariants.{SessionState, PlanShort, NodeCount, PlanLayout, PlanTree, TableShort, TableCounts, TableLayout, TableEntry, PlanLabel, BufferShort, ListLength, Node, Label, NodeTwice, NotBelow, LentLength, LentValue, PlannerFile, PlannerLabel, PlannerRoom, LaidOver, LabelCounts, StateProduct, Screen, Assignments, ColourStates}

abbrev pub refusal_number : Refusal → ℕ
refusal_number SessionState = 1
refusal_number PlanShort = 2
refusal_number NodeCount = 3
refusal_number PlanLayout = 4
refusal_number PlanTree = 5
refusal_number TableShort = 6
refusal_number TableCounts = 7
refusal_number TableLayout = 8
refusal_number TableEntry = 9
refusal_number PlanLabel = 10
refusal_number BufferShort = 11
refusal_number ListLength = 12
refusal_number Node = 13
refusal_number Label = 14
refusal_number NodeTwice = 15
refusal_number NotBelow = 16
refusal_number LentLength = 17
refusal_number LentValue = 18
refusal_number PlannerFile = 19
refusal_number PlannerLabel = 20
refusal_number PlannerRoom = 21
refusal_number LaidOver = 22
refusal_number LabelCounts = 23
refusal_number StateProduct = 24
refusal_number Screen = 25
refusal_number Assignments = 26
refusal_number ColourStates = 27

abbrev refusals : List Refusal
refusals =
    SessionState ∷ PlanShort ∷ NodeCount ∷ PlanLayout ∷ PlanTree ∷ TableShort ∷ TableCounts
    ∷ TableLayout ∷ TableEntry ∷ PlanLabel ∷ BufferShort ∷ ListLength ∷ Node ∷ Label
    ∷ NodeTwice ∷ NotBelow ∷ LentLength ∷ LentValue ∷ PlannerFile ∷ PlannerLabel ∷ PlannerRoom
    ∷ LaidOver ∷ LabelCounts ∷ StateProduct ∷ Screen ∷ Assignments ∷ ColourStates ∷ []

abbrev refusal_at : List Refusal → ℕ → Refusal
refusal_at [] n = LentValue
refusal_at (r ∷ rs) zero = r
refusal_at (r ∷ rs) (suc n) = refusal_at rs n

abbrev pub refusal_of : ℕ → Refusal
refusal_of zero = LentValue
refusal_of (suc n) = refusal_at refusals n

abbrev pub number_by : {A E : Type 0} → (E → ℕ) → Result A E → ℕ
number_by f (Ok a) = 0
number_by f (Err e) = f e

abbrev pub answer_number : {A : Type 0} → Result A Refusal → ℕ
answer_number a = number_by refusal_number a

-- "The first no gives its number; nothing else is returned": 0 with what is answered, or the refusal's number alone
abbrev pub told : {A : Type 0} → Result A Refusal → ℕ × Option A
told (Ok a) = (0, some a)
told (Err r) = (refusal_number r, none)

-- what is told where the first failing check is n (0: none) and x is what is answered
abbrev pub told_as : {A : Type 0} → ℕ → A → ℕ × Option A
told_as zero x = (0, some x)
told_as (suc n) x = (suc n, none)
