-- A question that is carried to its end: what its calls answer.
--
-- advances_of ws == an advance on each of the inputs ws
-- AllSame z x ws == each of the inputs ws is the same as x, excess aside
-- until_the_end n a == the answers of n advances and of a Read that returns a: more, and finished for the last advance
-- QuestionsFinish fresh Step == in every history from the fresh record: after an accepted Start that returned n parts,
--   n advances given the same as it and a Read are all accepted and answered so, the Read with the fresh run's answer
use Rattle.std.specs.Prelude.{ℕ, ◌-◌, ◌≡◌, true, List, [], ◌∷◌, ◌++◌, length, replicate}
use Rattle.formats.specs.Inputs.{Inputs, Sizes, same_inputs}
use Rattle.model.specs.Calls.{Call, start, advance, read, Answer, parts, more, finished}
use Rattle.model.specs.History.{History}
use Rattle.reference.specs.Reference.{new_reference, fresh_answer, asked}
use Rattle.reference.specs.Undisturbed.{reference_at}

abbrev pub advances_of : List Inputs → List Call
advances_of [] = []
advances_of (w ∷ ws) = advance w ∷ advances_of ws

abbrev pub AllSame : Sizes → Inputs → List Inputs → Type 0
AllSame z x [] = Unit {0}
AllSame z x (w ∷ ws) = (same_inputs z x w ≡ true) × AllSame z x ws

abbrev pub until_the_end : ℕ → Answer → List Answer
until_the_end n a = replicate (n - 1) more ++ (finished ∷ a ∷ [])

abbrev pub QuestionsFinish : {Record : Type 0} → Record → (Record → Call → Answer → Record → Type 0) → Type 0
QuestionsFinish fresh Step = (cs : List Call) (xs : List Answer) (x : Inputs) (vs bs : List ℕ) (n : ℕ) (ws : List Inputs) (ys : List Answer)
    → length cs ≡ length xs → length ws ≡ n → AllSame (reference_at new_reference cs xs).sizes x ws
    → History Step fresh (cs ++ (start x vs bs ∷ (advances_of ws ++ (read ∷ [])))) (xs ++ (parts n ∷ ys))
    → ys ≡ until_the_end n (fresh_answer (asked x vs bs))
