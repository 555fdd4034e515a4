-- A store to the first number of a node's row.
--     col-same, col-other, col-cost, col-past   what it alters, and what not
use Prim.Native.Nat.{ℕ, ◌+◌, ◌*◌, ◌<◌}
use mathlib.Core.Path.{◌≡◌, ap}
use mathlib.Core.List.{List}
use native.Mathlib.Decide.{ℕ_discrete}
use native.Mathlib.Omega.{arith}
use lib.ListN.{length, get_or, set}
use lib.Seq.{get_or-set_same, get_or-set_other}
use Rattle.list_laws.proofs.RowLaws.{cells-apart}
use Rattle.fewest.specs.inner.passes.Cells.{size_cell, cost_cell}

module _ (s : ℕ) (b : List ℕ) (i x : ℕ) where
  pub col-same : i * (s + 1) < length b → size_cell s (set b (i * (s + 1)) x) i ≡ x
  col-same h = get_or-set_same b (i * (s + 1)) x 0 h

  pub col-other : (v : ℕ) → (v ≡ i → ⊥) → size_cell s (set b (i * (s + 1)) x) v ≡ size_cell s b v
  col-other v ne =
      let apart : v * (s + 1) ≡ i * (s + 1) → ⊥ = λ e. cells-apart (s + 1) v i 0 0 (omega arith) (omega arith) ne (omega arith) in
      get_or-set_other b (i * (s + 1)) (v * (s + 1)) x 0 apart

  pub col-cost : (v j : ℕ) → j < s → cost_cell s (set b (i * (s + 1)) x) v j ≡ cost_cell s b v j
  col-cost v j h = get_or-set_other b (i * (s + 1)) (v * (s + 1) + 1 + j) x 0 (elim (ℕ_discrete v i) [
    | yes e ↦ (λ z. let q : v * (s + 1) ≡ i * (s + 1) = ap (λ (n : ℕ). n * (s + 1)) e in omega arith)
    | no e ↦ (λ z. cells-apart (s + 1) v i (1 + j) 0 (omega arith) (omega arith) e (omega arith))
  ])

  pub col-past : (j : ℕ) → i * (s + 1) < j → get_or (set b (i * (s + 1)) x) j 0 ≡ get_or b j 0
  col-past j h = get_or-set_other b (i * (s + 1)) j x 0 (omega arith)
