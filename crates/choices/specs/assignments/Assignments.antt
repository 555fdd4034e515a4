-- Counting assignments by trying all (document 02, S-10).
--
-- assignments k m == all lists of m labels below k
-- how_many p xs == how many of xs pass the test p
-- counted A k t vs s == how many of the assignments of labels below k to the nodes vs of t end in state s at the root
--
-- "count the assignments of any of the K labels to them, for each of the S root states .. the definition by trying
-- all"
use Rattle.std.specs.Prelude.{ℕ, zero, suc, ◌+◌, Bool, cond, List, [], ◌∷◌, ◌++◌, map, eqb, length}
use Rattle.trees.specs.Tree.{Tree, kinds_of, labels_of}
use Rattle.trees.specs.Automaton.{Automaton, state}
use Rattle.trees.specs.Postorder.{tree_of}
use Rattle.trees.specs.Changes.{changed}

-- the lists f 0, f 1, .. f (n - 1), one after the other
unfoldable pub gathered : {X : Type 0} → ℕ → (ℕ → List X) → List X
gathered zero f = []
gathered (suc n) f = gathered n f ++ f n

unfoldable pub assignments : ℕ → ℕ → List (List ℕ)
assignments k zero = [] ∷ []
assignments k (suc m) = gathered k (λ a. map (λ bs. a ∷ bs) (assignments k m))

unfoldable pub how_many : {X : Type 0} → (X → Bool) → List X → ℕ
how_many p [] = 0
how_many p (x ∷ xs) = cond (p x) 1 0 + how_many p xs

-- the state of the root, the labels of t changed by the list
abbrev pub end_state : Automaton → Tree → List ℕ → List ℕ → ℕ
end_state A t vs bs = state A (tree_of (kinds_of t) (changed (labels_of t) vs bs))

unfoldable pub counted : Automaton → ℕ → Tree → List ℕ → ℕ → ℕ
counted A k t vs s = how_many (λ bs. eqb (end_state A t vs bs) s) (assignments k (length vs))
