-- The words of what S-8 says of turns.
--
-- turns_of xs == the screens that the accepted deals among the answers xs served, in order
-- number_after k a == the screen to try first after an answer, k before; refused calls keep it
-- HandedOn k cs xs == "records and number are handed on as told": each deal is handed the number returned last, k at
--   first
-- Uncancelled i cs xs == no Cancel of screen i is accepted
-- until i l == the list l up to the first i
use Rattle.std.specs.Prelude.{ℕ, ◌≡◌, Bool, true, false, cond, List, [], ◌∷◌, eqb}
use Rattle.screens.specs.ScreenCalls.{ScreenCall, load_all, start_on, cancel_on, read_on, deal, ScreenAnswer, one}
use Rattle.screens.specs.ScreenCalls.{loads, deals}
use Rattle.screens.specs.ScreenCalls.{refuses, served_by}

unfoldable pub turns_of : List ScreenAnswer → List ℕ
turns_of [] = []
turns_of (one a ∷ xs) = turns_of xs
turns_of (loads k ∷ xs) = turns_of xs
turns_of (deals k a ∷ xs) = served_by k ∷ turns_of xs

abbrev pub number_after : ℕ → ScreenAnswer → ℕ
number_after k (one a) = k
number_after k (loads j) = j
number_after k (deals j a) = j

abbrev pub Handed : ℕ → ScreenCall → Type 0
Handed k (load_all x) = Unit {0}
Handed k (start_on i x vs bs) = Unit {0}
Handed k (cancel_on i) = Unit {0}
Handed k (read_on i) = Unit {0}
Handed k (deal j x) = j ≡ k

abbrev pub HandedOn : ℕ → List ScreenCall → List ScreenAnswer → Type 0
HandedOn k [] xs = Unit {0}
HandedOn k (c ∷ cs) [] = Unit {0}
HandedOn k (c ∷ cs) (a ∷ xs) = Handed k c × HandedOn (number_after k a) cs xs

abbrev pub cancels : ℕ → ScreenCall → Bool
cancels i (load_all x) = false
cancels i (start_on j x vs bs) = false
cancels i (cancel_on j) = eqb i j
cancels i (read_on j) = false
cancels i (deal k x) = false

abbrev pub Uncancelled : ℕ → List ScreenCall → List ScreenAnswer → Type 0
Uncancelled i [] xs = Unit {0}
Uncancelled i (c ∷ cs) [] = Unit {0}
Uncancelled i (c ∷ cs) (a ∷ xs) = (cancels i c ≡ true → refuses a ≡ true) × Uncancelled i cs xs

unfoldable pub until : ℕ → List ℕ → List ℕ
until i [] = []
until i (j ∷ l) = cond (eqb i j) [] (j ∷ until i l)
