-- A choice made by a Bool test, and how to prove something of it: by the fact that the test decides.
--     by-test, by-eq, by_le, by-lt   one proof for each answer of the test
--     le-or                          two cases for a goal without a test
use mathlib.Core.Path.{◌≡◌, refl}
use mathlib.Core.Bool.{Bool, true, false, cond}
use Prim.Native.Nat.{ℕ, ◌≤◌, ◌<◌}
use lib.Dec.{leb, ltb, eqb}
use borrow.Author.Tests.{ltb-true, ltb-false, leb-true, leb-false, eqb-true, eqb-false}

module _ {ℓ κ} {A : Type ℓ} (P : A → Type κ) {x y : A} where
  pub by-test : (b : Bool) → (b ≡ true → P x) → (b ≡ false → P y) → P (cond b x y)
  by-test true f g = f refl
  by-test false f g = g refl

  pub by-eq : (m n : ℕ) → (m ≡ n → P x) → (¬ (m ≡ n) → P y) → P (cond (eqb m n) x y)
  by-eq m n f g = by-test (eqb m n) (λ e. f (eqb-true m n e)) (λ e. g (eqb-false m n e))

  pub by_le : (m n : ℕ) → (m ≤ n → P x) → (n < m → P y) → P (cond (leb m n) x y)
  by_le m n f g = by-test (leb m n) (λ e. f (leb-true m n e)) (λ e. g (leb-false m n e))

  pub by-lt : (m n : ℕ) → (m < n → P x) → (n ≤ m → P y) → P (cond (ltb m n) x y)
  by-lt m n f g = by-test (ltb m n) (λ e. f (ltb-true m n e)) (λ e. g (ltb-false m n e))

pub le-or {ℓ} : {A : Type ℓ} (m n : ℕ) → (m ≤ n → A) → (n < m → A) → A
le-or {A = A} m n f g = by_le (λ (x : Unit {0}). A) {x = tt} {y = tt} m n f g
