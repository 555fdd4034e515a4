-- A plan's parts are plans.
--     plan-parts, parts-plan    of an inner node
--     one_below, below_one      of a leaf
use Prim.Native.Nat.{ℕ, ◌<◌}
use mathlib.Core.Path.{◌≡◌, refl}
use mathlib.Core.Bool.{true}
use mathlib.Core.List.{List, [], ◌∷◌, ◌++◌}
use lib.Dec.{ltb}
use borrow.Author.Tests.{ltb-true, lt-ltb}
use Rattle.trees.specs.Tree.{Tree, node, labels_of}
use Rattle.trees.proofs.MoveLaws.{both}
use Rattle.list_laws.specs.Tests.{all_below}
use Rattle.list_laws.proofs.BoolLaws.{and_both}
use Rattle.products.specs.Plans.{PlanOf}

pub below-append : (n : ℕ) (l m : List ℕ) → all_below n (l ++ m) ≡ true → (all_below n l ≡ true) × (all_below n m ≡ true)
unfolding all_below
below-append n [] m e = (refl, e)
below-append n (x ∷ l) m e =
    let h = both (ltb x n) (all_below n (l ++ m)) e in
    let i = below-append n l m h.1 in
    (and_both (ltb x n) (all_below n l) h.0 i.0, i.1)

pub append-below : (n : ℕ) (l m : List ℕ) → all_below n l ≡ true → all_below n m ≡ true → all_below n (l ++ m) ≡ true
unfolding all_below
append-below n [] m e f = f
append-below n (x ∷ l) m e f =
    let h = both (ltb x n) (all_below n l) e in
    and_both (ltb x n) (all_below n (l ++ m)) h.0 (append-below n l m h.1 f)

pub one_below : (n a : ℕ) → all_below n (a ∷ []) ≡ true → a < n
unfolding all_below
one_below n a e = ltb-true a n (both (ltb a n) true e).0

pub below_one : (n a : ℕ) → a < n → all_below n (a ∷ []) ≡ true
unfolding all_below
below_one n a h = and_both (ltb a n) true (lt-ltb a n h) refl

pub record Parts (k : ℕ) (l : Tree) (a : ℕ) (r : Tree) : Type 0 where
  pub left : PlanOf k l
  pub label : a < k
  pub right : PlanOf k r

pub plan-parts : (k : ℕ) (l : Tree) (a : ℕ) (r : Tree) → PlanOf k (node l a r) → Parts k l a r
plan-parts k l a r e =
    let h = below-append k (labels_of l) (labels_of r ++ (a ∷ [])) e in
    let i = below-append k (labels_of r) (a ∷ []) h.1 in
    record { left = h.0; label = one_below k a i.1; right = i.0 }

pub parts-plan : (k : ℕ) (l : Tree) (a : ℕ) (r : Tree) → PlanOf k l → a < k → PlanOf k r → PlanOf k (node l a r)
parts-plan k l a r p h q =
    append-below k (labels_of l) (labels_of r ++ (a ∷ [])) p (append-below k (labels_of r) (a ∷ []) q (below_one k a h))
