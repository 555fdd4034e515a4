-- The laws of the tests of lists: what all_below, holds, distinct and same_list mean, element by element.
--     all_below-at, all_below-all   every element is below, by its index; with 0 < n at every index, past the end too
--     at-all_below                 and back; all_below-not: else one of them is not
--     all_below-cons, all_below-le  one element more; a greater bound
--     same_list-true, same_list-refl, same_list-false
--     holds-at, distinct-at       an element has an index; two indices of a distinct list have different elements;
--                                 at-distinct back
use Prim.Native.Nat.{ℕ, zero, suc, ◌≤◌, ◌<◌}
use mathlib.Core.Path.{◌≡◌, refl, sym, ap, ap₂, ◌∙◌}
use mathlib.Core.Bool.{Bool, true, false, not, ◌&&◌, ◌||◌}
use mathlib.Core.List.{List, [], ◌∷◌}
use native.Mathlib.Omega.{arith}
use native.Mathlib.Decide.{dec_lt}
use lib.ListN.{length, get_or, get_or-eq_default}
use lib.Dec.{ltb, eqb}
use borrow.Author.Tests.{ltb-true, ltb-false, lt-ltb, eqb-true, eq-eqb, ne_eqb, not-true}
use Rattle.list_laws.specs.Tests.{all_below, holds, distinct, same_list}
use Rattle.list_laws.proofs.BoolLaws.{true-false, and_both, and_left, and_right}

-- ---- every element below a number

pub all_below-at : (n : ℕ) (l : List ℕ) (j : ℕ) → all_below n l ≡ true → j < length l → get_or l j 0 < n
unfolding all_below
all_below-at n [] j e h = absurd (omega arith)
all_below-at n (x ∷ l) zero e h = ltb-true x n (and_left (ltb x n) (all_below n l) e)
all_below-at n (x ∷ l) (suc j) e h = all_below-at n l j (and_right (ltb x n) (all_below n l) e) (omega arith)

-- at every index: past the end get_or gives 0
pub all_below-all : (n : ℕ) (l : List ℕ) → all_below n l ≡ true → 0 < n → (j : ℕ) → get_or l j 0 < n
all_below-all n l e h j =
    elim (dec_lt j (length l)) [
      | yes p ↦ all_below-at n l j e p
      | no p ↦ rw (get_or-eq_default l 0 {n = j} (omega arith)) h
    ]

pub at-all_below : (n : ℕ) (l : List ℕ) → ((j : ℕ) → j < length l → get_or l j 0 < n) → all_below n l ≡ true
unfolding all_below
at-all_below n [] f = refl
at-all_below n (x ∷ l) f =
    and_both (ltb x n) (all_below n l) (lt-ltb x n (f 0 (omega arith))) (at-all_below n l (λ j h. f (suc j) (omega arith)))

pub all_below-not : (n : ℕ) (l : List ℕ) → all_below n l ≡ false → (j : ℕ) × (j < length l) × (n ≤ get_or l j 0)
unfolding all_below
all_below-not n [] e = absurd (true-false e)
all_below-not n (x ∷ l) e = go (ltb x n) refl e (all_below-not n l)
  where
    go : (b : Bool) → ltb x n ≡ b → (b && all_below n l) ≡ false
        → (all_below n l ≡ false → (j : ℕ) × (j < length l) × (n ≤ get_or l j 0)) → (j : ℕ) × (j < length (x ∷ l)) × (n ≤ get_or (x ∷ l) j 0)
    go true b i ih = let r = ih i in (suc r.0, omega (arith, r.1), r.2)
    go false b i ih = (0, omega arith, ltb-false x n b)

pub all_below-le : (m n : ℕ) (l : List ℕ) → m ≤ n → all_below m l ≡ true → all_below n l ≡ true
all_below-le m n l h e = at-all_below n l (λ j i. omega (arith, all_below-at m l j e i))

-- ---- the same list

pub same_list-true : (l m : List ℕ) → same_list l m ≡ true → l ≡ m
unfolding same_list
same_list-true [] [] e = refl
same_list-true [] (y ∷ m) e = absurd (true-false (sym e))
same_list-true (x ∷ l) [] e = absurd (true-false (sym e))
same_list-true (x ∷ l) (y ∷ m) e =
    ap₂ (λ (a : ℕ) (b : List ℕ). a ∷ b) (eqb-true x y (and_left (eqb x y) (same_list l m) e)) (same_list-true l m (and_right (eqb x y) (same_list l m) e))

pub same_list-refl : (l : List ℕ) → same_list l l ≡ true
unfolding same_list
same_list-refl [] = refl
same_list-refl (x ∷ l) = and_both (eqb x x) (same_list l l) (eq-eqb x x refl) (same_list-refl l)

pub same_list-is : (l m : List ℕ) → l ≡ m → same_list l m ≡ true
same_list-is l m e = ap (same_list l) (sym e) ∙ same_list-refl l

pub same_list-false : (l m : List ℕ) → same_list l m ≡ false → l ≡ m → ⊥
same_list-false l m e q = true-false (sym (same_list-is l m q) ∙ e)

pub same_list-not : (l m : List ℕ) → (l ≡ m → ⊥) → same_list l m ≡ false
same_list-not l m f = go (same_list l m) refl
  where
    go : (b : Bool) → same_list l m ≡ b → b ≡ false
    go true e = absurd (f (same_list-true l m e))
    go false e = refl

-- ---- no element twice

pub at-holds : (x : ℕ) (l : List ℕ) (j : ℕ) → j < length l → get_or l j 0 ≡ x → holds x l ≡ true
unfolding holds
at-holds x [] j h e = absurd (omega arith)
at-holds x (y ∷ l) zero h e = rw (eq-eqb x y (sym e))
at-holds x (y ∷ l) (suc j) h e = go (eqb x y) (at-holds x l j (omega arith) e)
  where
    go : (b : Bool) → holds x l ≡ true → (b || holds x l) ≡ true
    go true r = refl
    go false r = r

-- what is at no index is not an element
pub never-holds : (x : ℕ) (l : List ℕ) → ((j : ℕ) → j < length l → get_or l j 0 ≡ x → ⊥) → holds x l ≡ false
unfolding holds
never-holds x [] f = refl
never-holds x (y ∷ l) f =
    rw (ne_eqb x y (λ e. f 0 (omega arith) (sym e))) (never-holds x l (λ j h. f (suc j) (omega arith)))

pub distinct_head : (x : ℕ) (l : List ℕ) → distinct (x ∷ l) ≡ true → holds x l ≡ false
unfolding distinct
distinct_head x l e = not-true (holds x l) (and_left (not (holds x l)) (distinct l) e)

pub distinct_tail : (x : ℕ) (l : List ℕ) → distinct (x ∷ l) ≡ true → distinct l ≡ true
unfolding distinct
distinct_tail x l e = and_right (not (holds x l)) (distinct l) e

pub distinct_cons : (x : ℕ) (l : List ℕ) → holds x l ≡ false → distinct l ≡ true → distinct (x ∷ l) ≡ true
unfolding distinct
distinct_cons x l e f = rw e f

-- a distinct list has different numbers at different indices
pub distinct-at : (l : List ℕ) (i j : ℕ) → distinct l ≡ true → i < j → j < length l → get_or l i 0 ≡ get_or l j 0 → ⊥
distinct-at [] i j e h k q = absurd (omega arith)
distinct-at (x ∷ l) zero zero e h k q = omega arith
distinct-at (x ∷ l) zero (suc j) e h k q = true-false (sym (at-holds x l j (omega arith) (sym q)) ∙ distinct_head x l e)
distinct-at (x ∷ l) (suc i) zero e h k q = omega arith
distinct-at (x ∷ l) (suc i) (suc j) e h k q = distinct-at l i j (distinct_tail x l e) (omega arith) (omega arith) q

pub at-distinct : (l : List ℕ) → ((i j : ℕ) → i < j → j < length l → get_or l i 0 ≡ get_or l j 0 → ⊥) → distinct l ≡ true
unfolding distinct
at-distinct [] f = refl
at-distinct (x ∷ l) f =
    distinct_cons x l (never-holds x l (λ j h e. f 0 (suc j) (omega arith) (omega arith) (sym e)))
    (at-distinct l (λ i j a b. f (suc i) (suc j) (omega arith) (omega arith)))
