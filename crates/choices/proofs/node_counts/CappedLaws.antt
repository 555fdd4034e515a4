-- Laws of capped sums.
--     capped-add      a sum may be cut off before the next is added
--     capped-ways     so may a factor
use Prim.Native.Nat.{ℕ, zero, suc, ◌+◌, ◌*◌}
use mathlib.Core.Path.{◌≡◌, ap}
use native.Mathlib.Omega.{arith}
use native.Mathlib.Decide.{ℕ_discrete}
use native.Mathlib.Nat.{add-mul}
use Rattle.choices.specs.node_counts.Capped.{capped}

pub capped-add : (a b : ℕ) → capped (capped a + b) ≡ capped (a + b)
capped-add a b = omega arith

-- n times a number, cut off or not
pub capped-ways : (a n y : ℕ) → capped (a + n * capped y) ≡ capped (a + n * y)
capped-ways a zero y = omega arith
capped-ways a (suc n) y = elim (ℕ_discrete (capped y) y) [
  | yes q ↦ (let w : suc n * capped y ≡ suc n * y = ap (λ (m : ℕ). suc n * m) q in omega arith)
  | no q ↦ (let e : suc n ≡ 1 + n = omega arith in
      omega (
        arith,
        ap (λ (m : ℕ). m * y) e,
        ap (λ (m : ℕ). m * capped y) e,
        add-mul 1 n y,
        add-mul 1 n (capped y),
      ))
]
