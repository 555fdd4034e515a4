-- Lines and their trees.
--     trees-more, length-trees   one line more is one tree more, and the trees before stay
--     good_more                  one good line more
--     good-take, trees-take      a front of good lines is good lines, with the same trees
--     line-plan                  a good line over plans is a plan
use Prim.Native.Nat.{ℕ, zero, suc, ◌+◌, ◌<◌}
use mathlib.Core.Path.{◌≡◌, refl, sym, ap, ◌∙◌, subst}
use mathlib.Core.List.{List, [], ◌∷◌, ◌++◌}
use native.Mathlib.Omega.{arith}
use lib.ListN.{length, get_or, take, drop, length-append, get_or-append, take-append-drop}
use Rattle.trees.specs.Tree.{Tree, leaf}
use Rattle.products.specs.agreement.Lines.{Line, leaf_line, inner_line, GoodLine, GoodLines, line_tree, trees_from}
use Rattle.products.specs.Plans.{PlanOf}
use Rattle.products.proofs.PlanParts.{below_one, parts-plan}

pub trees-append : (xs ys : List Line) (ts : List Tree) → trees_from ts (xs ++ ys) ≡ trees_from (trees_from ts xs) ys
trees-append [] ys ts = refl
trees-append (x ∷ xs) ys ts = trees-append xs ys (ts ++ (line_tree ts x ∷ []))

pub trees-more : (xs : List Line) (x : Line) (ts : List Tree)
    → trees_from ts (xs ++ (x ∷ [])) ≡ trees_from ts xs ++ (line_tree (trees_from ts xs) x ∷ [])
trees-more xs x ts = trees-append xs (x ∷ []) ts

pub length-trees : (xs : List Line) (ts : List Tree) → length (trees_from ts xs) ≡ length ts + length xs
length-trees [] ts = omega arith
length-trees (x ∷ xs) ts = length-trees xs (ts ++ (line_tree ts x ∷ [])) ∙ simp length-append (omega arith)

-- what is in front stays
pub trees-front : (xs : List Line) (ts : List Tree) (i : ℕ) → i < length ts
    → get_or (trees_from ts xs) i (leaf 0) ≡ get_or ts i (leaf 0)
trees-front [] ts i h = refl
trees-front (x ∷ xs) ts i h =
    let l : length (ts ++ (line_tree ts x ∷ [])) ≡ length ts + 1 = length-append ts (line_tree ts x ∷ []) in
    trees-front xs (ts ++ (line_tree ts x ∷ [])) i (omega arith) ∙ get_or-append ts (line_tree ts x ∷ []) (leaf 0) i h

pub good_more : (k n : ℕ) (xs : List Line) (x : Line) → GoodLines k n xs → GoodLine k (n + length xs) x
    → GoodLines k n (xs ++ (x ∷ []))
good_more k n [] x g h = (let e : n + 0 ≡ n = omega arith in subst (λ (m : ℕ). GoodLine k m x) e h, tt)
good_more k n (y ∷ xs) x g h =
    let e : n + suc (length xs) ≡ suc n + length xs = omega arith in
    (g.0, good_more k (suc n) xs x g.1 (subst (λ (m : ℕ). GoodLine k m x) e h))

pub good-take : (k n i : ℕ) (xs : List Line) → GoodLines k n xs → GoodLines k n (take i xs)
good-take k n zero xs g = tt
good-take k n (suc i) [] g = tt
good-take k n (suc i) (x ∷ xs) g = (g.0, good-take k (suc n) i xs g.1)

-- the trees of a front are the front's trees
pub trees-take : (n i : ℕ) (xs : List Line) → i < length (take n xs)
    → get_or (trees_from [] (take n xs)) i (leaf 0) ≡ get_or (trees_from [] xs) i (leaf 0)
trees-take n i xs h =
    let e : trees_from [] xs ≡ trees_from (trees_from [] (take n xs)) (drop n xs) =
    ap (trees_from []) (sym (take-append-drop n xs)) ∙ trees-append (take n xs) (drop n xs) [] in
    sym (ap (λ (ts : List Tree). get_or ts i (leaf 0)) e
    ∙ trees-front (drop n xs) (trees_from [] (take n xs)) i (omega (arith, length-trees (take n xs) [])))

pub line-plan : (k n : ℕ) (ts : List Tree) (x : Line) → ((i : ℕ) → i < n → PlanOf k (get_or ts i (leaf 0))) → GoodLine k n x
    → PlanOf k (line_tree ts x)
line-plan k n ts (leaf_line a) p g = below_one k a g
line-plan k n ts (inner_line a i j) p g = parts-plan k (get_or ts i (leaf 0)) a (get_or ts j (leaf 0)) (p i g.1.0) g.0
    (p j g.1.1)
