-- The laws of least values.
--     least-le, least-far    it is not above any of them, nor above far
--     least-found            below far it is one of them, at its place
use Prim.Native.Nat.{ℕ, zero, suc, min, ◌≤◌, ◌<◌}
use mathlib.Core.Path.{◌≡◌, refl, ap, ap₂}
use native.Mathlib.Decide.{ℕ_discrete}
use native.Mathlib.Omega.{arith}
use borrow.Author.Tests.{lt-ltb, le-ltb}
use Rattle.list_laws.proofs.Choice.{le-or}
use Rattle.fewest.specs.Least.{least_to, place_of_least}

module _ (far : ℕ) where
  pub least-far : (n : ℕ) (f : ℕ → ℕ) → least_to far n f ≤ far
  unfolding least_to
  least-far zero f = omega arith
  least-far (suc n) f = omega (arith, least-far n f)

  pub least-le : (n : ℕ) (f : ℕ → ℕ) (i : ℕ) → i < n → least_to far n f ≤ f i
  unfolding least_to
  least-le zero f i h = absurd (omega arith)
  least-le (suc n) f i h = elim (ℕ_discrete i n) [
    | yes e ↦ omega (arith, ap f e)
    | no e ↦ omega (arith, least-le n f i (omega arith))
  ]

  pub record Found (n : ℕ) (f : ℕ → ℕ) (i : ℕ) : Type 0 where
    pub below : i < n
    pub is : f i ≡ least_to far n f

  pub least-found : (n : ℕ) (f : ℕ → ℕ) → least_to far n f < far → Found n f (place_of_least far n f)
  unfolding least_to place_of_least
  least-found zero f h = absurd (omega arith)
  least-found (suc n) f h =
      le-or (least_to far n f) (f n)
      (λ l. let F : Found n f (place_of_least far n f) = least-found n f (omega arith) in
      rw (le-ltb (f n) (least_to far n f) l) (record { below = omega (arith, F.below); is = omega (arith, F.is) }))
      (λ l. rw (lt-ltb (f n) (least_to far n f) l) (record { below = omega arith; is = omega arith }))

  pub least-ext : (n : ℕ) (f g : ℕ → ℕ) → ((i : ℕ) → i < n → f i ≡ g i) → least_to far n f ≡ least_to far n g
  unfolding least_to
  least-ext zero f g e = refl
  least-ext (suc n) f g e = ap₂ (λ (x y : ℕ). min x y) (least-ext n f g (λ i h. e i (omega arith))) (e n (omega arith))
