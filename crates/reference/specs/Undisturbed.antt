-- A question that is undisturbed (document 01: left alone): the words of demand 3's further statements.
--
-- advances xs == the number of accepted advances in the answers xs
-- finished_after xs == their number up to the first that answers finished, that one included; none where none does
-- reference_at b cs xs == the reference model after the calls cs with the answers xs
-- Undisturbed z y cs xs == every accepted call of cs is an advance given the same as y, excess aside, or a Read
-- OutcomeHas P a == if a is an outcome (the answer of a Read), it has P
-- EveryOutcome P xs == the same of all answers xs; OnlyOutcome a xs == every outcome in xs is a
-- EveryOutcomeAfter P xs, OnlyOutcomeAfter a xs == the same of the answers after the first finished: a Read before it
--   is about an earlier question
use Rattle.std.specs.Prelude.{ℕ, suc, ◌≡◌, true, false, List, [], ◌∷◌}
use Rattle.std.proofs.Math.Option.{Option, none, some}
use Rattle.formats.specs.Inputs.{Inputs, Sizes, same_inputs}
use Rattle.model.specs.Calls.{Call, load, start, advance, cancel, read, Answer, refused, parts, more, finished, Outcome}
use Rattle.model.specs.Calls.{outcome, on_advance, is_refused}
use Rattle.reference.specs.Reference.{Reference, step}
use Rattle.reference.specs.Demand3.{after}

abbrev pub advances : List Answer → ℕ
advances [] = 0
advances (a ∷ xs) = on_advance (suc (advances xs)) (suc (advances xs)) (advances xs) a

abbrev pub one_more : Option ℕ → Option ℕ
one_more none = none
one_more (some n) = some (suc n)

abbrev pub finished_after : List Answer → Option ℕ
finished_after [] = none
finished_after (a ∷ xs) = on_advance (one_more (finished_after xs)) (some 1) (finished_after xs) a

abbrev pub reference_at : Reference → List Call → List Answer → Reference
reference_at b [] xs = b
reference_at b (c ∷ cs) [] = b
reference_at b (c ∷ cs) (a ∷ xs) = reference_at (after (step b c) a) cs xs

abbrev pub UndisturbedBy : Sizes → Inputs → Call → Answer → Type 0
UndisturbedBy z y (load x) a = is_refused a ≡ true
UndisturbedBy z y (start x vs bs) a = is_refused a ≡ true
UndisturbedBy z y (advance x) a = is_refused a ≡ false → same_inputs z y x ≡ true
UndisturbedBy z y cancel a = is_refused a ≡ true
UndisturbedBy z y read a = Unit {0}

abbrev pub Undisturbed : Sizes → Inputs → List Call → List Answer → Type 0
Undisturbed z y [] xs = Unit {0}
Undisturbed z y (c ∷ cs) [] = Unit {0}
Undisturbed z y (c ∷ cs) (a ∷ xs) = UndisturbedBy z y c a × Undisturbed z y cs xs

abbrev pub OutcomeHas : (Outcome → Type 0) → Answer → Type 0
OutcomeHas P (refused n) = Unit {0}
OutcomeHas P Answer.accepted = Unit {0}
OutcomeHas P (parts p) = Unit {0}
OutcomeHas P more = Unit {0}
OutcomeHas P finished = Unit {0}
OutcomeHas P (outcome o) = P o

abbrev pub EveryOutcome : (Outcome → Type 0) → List Answer → Type 0
EveryOutcome P [] = Unit {0}
EveryOutcome P (a ∷ xs) = OutcomeHas P a × EveryOutcome P xs

abbrev pub OnlyOutcome : Answer → List Answer → Type 0
OnlyOutcome a xs = EveryOutcome (λ o. outcome o ≡ a) xs

abbrev pub EveryOutcomeAfter : (Outcome → Type 0) → List Answer → Type 0
EveryOutcomeAfter P [] = Unit {0}
EveryOutcomeAfter P (refused n ∷ xs) = EveryOutcomeAfter P xs
EveryOutcomeAfter P (Answer.accepted ∷ xs) = EveryOutcomeAfter P xs
EveryOutcomeAfter P (parts p ∷ xs) = EveryOutcomeAfter P xs
EveryOutcomeAfter P (more ∷ xs) = EveryOutcomeAfter P xs
EveryOutcomeAfter P (finished ∷ xs) = EveryOutcome P xs
EveryOutcomeAfter P (outcome o ∷ xs) = EveryOutcomeAfter P xs

abbrev pub OnlyOutcomeAfter : Answer → List Answer → Type 0
OnlyOutcomeAfter a xs = EveryOutcomeAfter (λ o. outcome o ≡ a) xs
