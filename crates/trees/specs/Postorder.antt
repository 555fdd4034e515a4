-- From post-order back to the tree.
--
-- waiting ks w == how many trees wait after the kinds ks, where w waited before; none where a kind is neither 0 nor 1
--   or where fewer than two trees wait at an inner node
-- is_postorder ks == whether ks are the kinds of a tree: check 5 of document 01
-- read lf nd ks ls st == the values of the trees that wait after kinds ks and labels ls, the last completed first, where st waited
--   before; a leaf of label a has the value lf a, an inner node of label a over values p, q the value nd p a q
-- tree_of ks ls == the tree of these kinds and labels; leaf 0 where there is none
use Rattle.std.specs.Prelude.{ℕ, zero, suc, Bool, false, List, [], ◌∷◌, eqb}
use Rattle.std.proofs.Math.Option.{Option, none, some}
use Rattle.trees.specs.Tree.{Tree, leaf, node}

-- "kinds 0 or 1, two trees waiting at each inner node, one at the end?"
abbrev pub waiting : List ℕ → ℕ → Option ℕ
waiting [] w = some w
waiting (zero ∷ ks) w = waiting ks (suc w)
waiting (suc zero ∷ ks) zero = none
waiting (suc zero ∷ ks) (suc zero) = none
waiting (suc zero ∷ ks) (suc (suc w)) = waiting ks (suc w)
waiting (suc (suc k) ∷ ks) w = none

abbrev pub is_single : Option ℕ → Bool
is_single none = false
is_single (some w) = eqb w 1

unfoldable pub is_postorder : List ℕ → Bool
is_postorder ks = is_single (waiting ks 0)

-- "An inner node takes the two trees last completed, the earlier as left child."
abbrev pub read : {X : Type 0} → (ℕ → X) → (X → ℕ → X → X) → List ℕ → List ℕ → List X → Option (List X)
read lf nd [] ls st = some st
read lf nd (k ∷ ks) [] st = none
read lf nd (zero ∷ ks) (a ∷ ls) st = read lf nd ks ls (lf a ∷ st)
read lf nd (suc zero ∷ ks) (a ∷ ls) [] = none
read lf nd (suc zero ∷ ks) (a ∷ ls) (r ∷ []) = none
read lf nd (suc zero ∷ ks) (a ∷ ls) (r ∷ l ∷ st) = read lf nd ks ls (nd l a r ∷ st)
read lf nd (suc (suc k) ∷ ks) (a ∷ ls) st = none

abbrev pub last_completed : Option (List Tree) → Tree
last_completed none = leaf 0
last_completed (some []) = leaf 0
last_completed (some (t ∷ st)) = t

unfoldable pub tree_of : List ℕ → List ℕ → Tree
tree_of ks ls = last_completed (read leaf node ks ls [])
