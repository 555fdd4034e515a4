-- A sum of products may have its terms and factors cut off before.
use Prim.Native.Nat.{ℕ, zero, suc, ◌*◌, ◌<◌}
use mathlib.Core.Path.{◌≡◌, refl, sym, ap, ◌∙◌}
use native.Mathlib.Omega.{arith}
use native.Mathlib.Nat.{mul_comm}
use Rattle.choices.specs.assignments.Sums.{sum_to}
use Rattle.choices.specs.node_counts.Capped.{capped}
use Rattle.choices.proofs.node_counts.CappedLaws.{capped-ways}

pub capped-sum : (n : ℕ) (f g : ℕ → ℕ) → ((j : ℕ) → j < n → capped (f j) ≡ capped (g j))
    → capped (sum_to n f) ≡ capped (sum_to n g)
unfolding sum_to
capped-sum zero f g e = refl
capped-sum (suc n) f g e = omega (arith, capped-sum n f g (λ j h. e j (omega arith)), e n (omega arith))

second : (a b : ℕ) → capped (a * capped b) ≡ capped (a * b)
second a b = let z = capped-ways 0 a b in omega (arith, z)

pub capped-product : (a b c d : ℕ) → capped a ≡ capped b → capped c ≡ capped d → capped (a * c) ≡ capped (b * d)
capped-product a b c d e f =
    sym (second a c)
    ∙ ap (λ (m : ℕ). capped (a * m)) f
    ∙ second a d
    ∙ ap capped (mul_comm a d)
    ∙ sym (second d a)
    ∙ ap (λ (m : ℕ). capped (d * m)) e
    ∙ second d b
    ∙ ap capped (mul_comm d b)
