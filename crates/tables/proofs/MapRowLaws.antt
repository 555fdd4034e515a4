-- A node's map written byte by byte.
--     row-iteration                one byte more written
--     row_other                    other rows are as they were
use Prim.Native.Nat.{ℕ, ◌+◌, ◌*◌, ◌≤◌, ◌<◌}
use mathlib.Core.Path.{◌≡◌, ◌∙◌}
use mathlib.Core.List.{List}
use native.Mathlib.Decide.{ℕ_discrete}
use native.Mathlib.Omega.{arith}
use lib.ListN.{length, set}
use lib.Seq.{get_or-set_same, get_or-set_other}
use Rattle.list_laws.proofs.RowLaws.{cells-apart}
use Rattle.tables.specs.StateCells.{map_cell}
use Rattle.tables.specs.inner.Rows.{RowTo}

module _ (s : ℕ) (f : ℕ → ℕ) (v i : ℕ) (b₀ b : List ℕ) (r : RowTo s f v i b₀ b) where
  pub row-iteration : (x y : ℕ) → x ≡ v * (s + 1) + (1 + i) → x < length b → y ≡ f i → RowTo s f v (i + 1) b₀ (set b x y)
  row-iteration x y e room z = record {
    cells = λ q l. elim (ℕ_discrete q i) [
      | yes p ↦ rw (p, ← e) (get_or-set_same b x y 0 room ∙ z)
      | no p ↦ get_or-set_other b x (v * (s + 1) + (1 + q)) y 0 (omega arith) ∙ r.cells q (omega arith)
    ];
    kept = λ j a. get_or-set_other b x j y 0 (λ p. a i (omega arith) (omega arith)) ∙ r.kept j
        (λ q l. a q (omega arith));
  }

  pub row_other : (u q : ℕ) → (u ≡ v → ⊥) → i ≤ s → q < s → map_cell s b u q ≡ map_cell s b₀ u q
  row_other u q ne few l =
      r.kept (u * (s + 1) + (1 + q)) (λ x h e. cells-apart (s + 1) u v (1 + q) (1 + x) (omega arith) (omega arith) ne
      e)
