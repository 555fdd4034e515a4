-- A colouring of a copy of the states, and the next copy's from it (source document 002, 2.2.3 and chapter 3).
--
-- A copy is the list of its states in the order of their colours: element c has document 02's colour c + 1. No answer
-- contains a colour's number, so colours start from 0 here, as states and nodes do.
--
-- lowest_free xs == the lowest number that is not in xs
-- takes xs q == what the next colour takes where the lower colours have xs and its state above leads to q
-- recolour f above == the next copy, where f takes each state of the copy `above` to one of the next
-- place_of q xs == the place of q in xs: the colour of state q; the length where q is not there
-- lands f above c == the colour, in the next copy, of the state that colour c's state above leads to
-- Colouring n xs == each of n states has exactly one of n colours
-- Free xs k == k is the lowest number that is not in xs
--
-- Any number of states and any f: words and sets of states are instances (Words, StateSets).
use Rattle.std.specs.Prelude.{ℕ, zero, suc, ◌<◌, ◌≡◌, true, cond, List, [], ◌∷◌, ◌++◌, eqb, length, get_or, ◌≤◌, false}
use Rattle.list_laws.specs.Tests.{holds, distinct}

-- from k on, f tries
unfoldable pub free_from : ℕ → ℕ → List ℕ → ℕ
free_from zero k xs = k
free_from (suc f) k xs = cond (holds k xs) (free_from f (suc k) xs) k

-- a list of l numbers leaves one of 0 .. l free
unfoldable pub lowest_free : List ℕ → ℕ
lowest_free xs = free_from (length xs) 0 xs

-- "the state that the colour's state above leads to, or, if a lower colour has it, the lowest state that no lower
-- colour has"
unfoldable pub takes : List ℕ → ℕ → ℕ
takes xs q = cond (holds q xs) (lowest_free xs) q

-- "At each node colours take states in turn"
unfoldable pub recolour_from : (ℕ → ℕ) → List ℕ → List ℕ → List ℕ
recolour_from f taken [] = taken
recolour_from f taken (s ∷ above) = recolour_from f (taken ++ (takes taken (f s) ∷ [])) above

unfoldable pub recolour : (ℕ → ℕ) → List ℕ → List ℕ
recolour f above = recolour_from f [] above

unfoldable pub place_of : ℕ → List ℕ → ℕ
place_of q [] = 0
place_of q (x ∷ xs) = cond (eqb q x) 0 (suc (place_of q xs))

unfoldable pub lands : (ℕ → ℕ) → List ℕ → ℕ → ℕ
lands f above c = place_of (f (get_or above c 0)) (recolour f above)

-- "every copy of Q has one vertex of each of the |Q| colors"
pub record Colouring (n : ℕ) (xs : List ℕ) : Type 0 where
  pub count : length xs ≡ n
  pub below : (c : ℕ) → c < n → get_or xs c 0 < n
  pub once : distinct xs ≡ true

pub record Free (xs : List ℕ) (k : ℕ) : Type 0 where
  pub free : holds k xs ≡ false
  pub lowest : (i : ℕ) → i < k → holds i xs ≡ true
  pub short : k ≤ length xs
