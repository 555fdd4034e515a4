-- Finite sums.
use Prim.Native.Nat.{ℕ, zero, suc, ◌+◌, ◌*◌, ◌≤◌, ◌<◌}
use mathlib.Core.Path.{◌≡◌, refl, sym, ap, ap₂, ◌∙◌}
use mathlib.Core.Bool.{true, false}
use native.Mathlib.Decide.{ℕ_discrete}
use native.Mathlib.Omega.{arith}
use native.Mathlib.Nat.{add-mul}
use lib.Dec.{eqb}
use borrow.Author.Tests.{eq-eqb, ne_eqb}
use Rattle.choices.specs.assignments.Sums.{sum_to, one}

pub sum-ext : (n : ℕ) (f g : ℕ → ℕ) → ((i : ℕ) → i < n → f i ≡ g i) → sum_to n f ≡ sum_to n g
unfolding sum_to
sum-ext zero f g e = refl
sum-ext (suc n) f g e = ap₂ (λ (x y : ℕ). x + y) (sum-ext n f g (λ i h. e i (omega arith))) (e n (omega arith))

pub sum-add : (n : ℕ) (f g : ℕ → ℕ) → sum_to n (λ i. f i + g i) ≡ sum_to n f + sum_to n g
unfolding sum_to
sum-add zero f g = refl
sum-add (suc n) f g = omega (arith, sum-add n f g)

pub sum-zero : (n : ℕ) → sum_to n (λ i. 0) ≡ 0
unfolding sum_to
sum-zero zero = refl
sum-zero (suc n) = omega (arith, sum-zero n)

pub sum-swap : (m n : ℕ) (f : ℕ → ℕ → ℕ) → sum_to m (λ i. sum_to n (λ j. f i j)) ≡ sum_to n (λ j. sum_to m (λ i. f i j))
unfolding sum_to
sum-swap zero n f = sym (sum-zero n)
sum-swap (suc m) n f =
    ap (λ (x : ℕ). x + sum_to n (λ j. f m j)) (sum-swap m n f)
    ∙ sym (sum-add n (λ j. sum_to m (λ i. f i j)) (λ j. f m j))

pub sum-times : (n : ℕ) (f : ℕ → ℕ) (m : ℕ) → sum_to n (λ i. f i * m) ≡ sum_to n f * m
unfolding sum_to
sum-times zero f m = omega arith
sum-times (suc n) f m = ap (λ (x : ℕ). x + f n * m) (sum-times n f m) ∙ sym (add-mul (sum_to n f) (f n) m)

pub sum-const : (n c : ℕ) → sum_to n (λ i. c) ≡ n * c
unfolding sum_to
sum-const zero c = omega arith
sum-const (suc n) c = omega (arith, sum-const n c, add-mul n 1 c)

pub sum-most : (n : ℕ) (f : ℕ → ℕ) (i : ℕ) → i < n → f i ≤ sum_to n f
unfolding sum_to
sum-most zero f i h = absurd (omega arith)
sum-most (suc n) f i h = elim (ℕ_discrete i n) [
  | yes e ↦ omega (arith, ap f e)
  | no e ↦ omega (arith, sum-most n f i (omega arith))
]

-- a value is the sum of the values at all numbers, each counted where it is the one
one-past : (n c : ℕ) (g : ℕ → ℕ) → n ≤ c → sum_to n (λ s. one s c * g s) ≡ 0
unfolding sum_to
one-past zero c g h = refl
one-past (suc n) c g h =
    let e : eqb c n ≡ false = ne_eqb c n (λ q. omega arith) in
    let z : one n c * g n ≡ 0 = rw e (omega arith) in
    omega (arith, one-past n c g (omega arith))

pub sum_one : (n c : ℕ) (g : ℕ → ℕ) → c < n → sum_to n (λ s. one s c * g s) ≡ g c
unfolding sum_to
sum_one zero c g h = absurd (omega arith)
sum_one (suc n) c g h = elim (ℕ_discrete c n) [
  | yes q ↦ (let e : eqb c n ≡ true = eq-eqb c n q in
      let z : one n c * g n ≡ g n = rw e (omega arith) in
      let i : g n ≡ g c = ap g (sym q) in
      omega (arith, one-past n c g (omega arith)))
  | no q ↦ (let e : eqb c n ≡ false = ne_eqb c n q in
      let z : one n c * g n ≡ 0 = rw e (omega arith) in
      omega (arith, sum_one n c g (omega arith)))
]
