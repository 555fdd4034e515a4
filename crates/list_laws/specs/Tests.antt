-- Tests of lists of numbers.
--
-- all_below n l == whether every element of l is below n
-- holds x l == whether x is an element of l
-- distinct l == whether no element is in l twice
-- same_list l m == whether l and m are the same list
use Rattle.std.specs.Prelude.{ℕ, Bool, true, false, not, ◌&&◌, ◌||◌, List, [], ◌∷◌, ltb, eqb}

unfoldable pub all_below : ℕ → List ℕ → Bool
all_below n [] = true
all_below n (x ∷ l) = ltb x n && all_below n l

unfoldable pub holds : ℕ → List ℕ → Bool
holds x [] = false
holds x (y ∷ l) = eqb x y || holds x l

unfoldable pub distinct : List ℕ → Bool
distinct [] = true
distinct (x ∷ l) = not (holds x l) && distinct l

unfoldable pub same_list : List ℕ → List ℕ → Bool
same_list [] [] = true
same_list [] (y ∷ m) = false
same_list (x ∷ l) [] = false
same_list (x ∷ l) (y ∷ m) = eqb x y && same_list l m
