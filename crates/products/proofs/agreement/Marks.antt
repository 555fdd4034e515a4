-- How many cells of a list are not 0.
--     marks-most     at most the length
--     marks-none     0 in a list of zeros
--     marks-set      one more where a 0 becomes 1
--     zeros-at       a list of zeros has 0 at every index, past its end too
-- The number of lines found is the number of states seen, so there are at most 256.
use Prim.Native.Nat.{ℕ, zero, suc, ◌+◌, ◌≤◌, ◌<◌}
use mathlib.Core.Path.{◌≡◌, refl}
use mathlib.Core.List.{List, [], ◌∷◌}
use native.Mathlib.Decide.{dec_lt}
use native.Mathlib.Omega.{arith}
use lib.ListN.{length, get_or, set, replicate, length-replicate, get_or-replicate, get_or-eq_default}
use Rattle.products.specs.agreement.Search.{marks}

pub marks-most : (l : List ℕ) → marks l ≤ length l
unfolding marks
marks-most [] = omega arith
marks-most (zero ∷ l) = omega (arith, marks-most l)
marks-most (suc x ∷ l) = omega (arith, marks-most l)

pub marks-none : (n : ℕ) → marks (replicate n 0) ≡ 0
unfolding marks
marks-none zero = refl
marks-none (suc n) = marks-none n

pub marks-set : (l : List ℕ) (i : ℕ) → i < length l → get_or l i 0 ≡ 0 → marks (set l i 1) ≡ marks l + 1
unfolding marks
marks-set [] i h e = absurd (omega arith)
marks-set (zero ∷ l) zero h e = omega arith
marks-set (suc x ∷ l) zero h e = absurd (omega arith)
marks-set (zero ∷ l) (suc i) h e = marks-set l i (omega arith) e
marks-set (suc x ∷ l) (suc i) h e = omega (arith, marks-set l i (omega arith) e)

pub zeros-at : (n i : ℕ) → ◌≡◌ {A = ℕ} (get_or (replicate n 0) i 0) 0
zeros-at n i = elim (dec_lt i n) [
  | yes h ↦ get_or-replicate n i 0 0 h
  | no h ↦ get_or-eq_default (replicate n 0) 0 {n = i} (omega (arith, length-replicate {A = ℕ} n 0))
]
