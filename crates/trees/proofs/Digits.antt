-- The number of binary digits.
--     digits_are     2 ^ (digits n - 1) ≤ n < 2 ^ digits n, and 0 has none
--     digits-mono    a greater number has no fewer
--     digits-limit   a number up to 32,767 has at most 15
--     weight-digits  where 2 ^ k - 1 ≤ n, n has at least k
use Prim.Native.Nat.{ℕ, zero, suc, ◌*◌, ◌/◌, ◌^◌, ◌≤◌, ◌<◌, suc-le-suc, max}
use mathlib.Core.Path.{◌≡◌, refl}
use native.Mathlib.Omega.{arith}
use native.Mathlib.Nat.{le_refl}
use Rattle.trees.specs.Climb.{digits_in, digits}
use Rattle.list_laws.proofs.Choice.{by-lt}
use Rattle.trees.proofs.SkewBinary.{weight}

in-pow : (f n : ℕ) → n ≤ f → n < 2 ^ digits_in f n
unfolding digits_in
in-pow zero n h = omega arith
in-pow (suc f) n h = by-lt (λ r. n < 2 ^ r) 0 n (λ p. omega (arith, in-pow f (n / 2) (omega arith))) (λ p. omega arith)

in-low : (f n : ℕ) → n ≤ f → 2 ^ digits_in f n ≤ max 1 (2 * n)
unfolding digits_in
in-low zero n h = omega arith
in-low (suc f) n h =
    by-lt (λ r. 2 ^ r ≤ max 1 (2 * n)) 0 n (λ p. omega (arith, in-low f (n / 2) (omega arith))) (λ p. omega arith)

pub digits_are : (n : ℕ) → (n < 2 ^ digits n) × (2 ^ digits n ≤ max 1 (2 * n))
unfolding digits
digits_are n = (in-pow n n (le_refl n), in-low n n (le_refl n))

in-mono : (f g m n : ℕ) → m ≤ n → n ≤ g → digits_in f m ≤ digits_in g n
unfolding digits_in
in-mono zero g m n h l = omega arith
in-mono (suc f) zero m n h l = by-lt (λ r. r ≤ 0) 0 m (λ p. absurd (omega arith)) (λ _. omega arith)
in-mono (suc f) (suc g) m n h l =
    by-lt (λ r. r ≤ digits_in (suc g) n) 0 m
    (λ p. by-lt (λ r. suc (digits_in f (m / 2)) ≤ r) 0 n
    (λ _. suc-le-suc (in-mono f g (m / 2) (n / 2) (omega arith) (omega arith))) (λ q. absurd (omega arith)))
    (λ _. omega arith)

pub digits-mono : (m n : ℕ) → m ≤ n → digits m ≤ digits n
unfolding digits
digits-mono m n h = in-mono m n m n h (le_refl n)

pub digits-limit : (n : ℕ) → n ≤ 32767 → digits n ≤ 15
digits-limit n h = let e : digits 32767 ≡ 15 = unfold digits digits_in in refl in omega (arith, digits-mono n 32767 h)

in-weight : (k f n : ℕ) → weight k ≤ n → n ≤ f → k ≤ digits_in f n
unfolding weight digits_in
in-weight zero f n h g = omega arith
in-weight (suc k) zero n h g = absurd (omega arith)
in-weight (suc k) (suc f) n h g =
    by-lt (λ r. suc k ≤ r) 0 n
    (λ p. suc-le-suc (in-weight k f (n / 2) (omega arith) (omega arith))) (λ q. absurd (omega arith))

pub weight-digits : (k n : ℕ) → weight k ≤ n → k ≤ digits n
unfolding digits
weight-digits k n h = in-weight k n n h (le_refl n)
