-- The copy above a node, as a row.
--     above-top, above_parent          the copy above a node
use Prim.Native.Nat.{ℕ, ◌+◌, ◌*◌, ◌≤◌, ◌<◌}
use mathlib.Core.Path.{◌≡◌, refl, ap, ◌∙◌}
use mathlib.Core.List.{List, [], ◌∷◌}
use native.Mathlib.Omega.{arith}
use lib.ListN.{get_or}
use borrow.Author.Tests.{eq-eqb, ne_eqb}
use Rattle.list_laws.specs.Rows.{tabulate}
use Rattle.list_laws.proofs.RowLaws.{get_d_tabulate}
use Rattle.tables.specs.node_tables.Cells.{parent_cell}
use Rattle.colour_tables.specs.states.inner.Rows.{RowOf, above_cell}

-- ---- the copy above

-- the states of the top copy, as they are written out
top-cell : (c : ℕ) → c < 16
    → get_or (0 ∷ 1 ∷ 2 ∷ 3 ∷ 4 ∷ 5 ∷ 6 ∷ 7 ∷ 8 ∷ 9 ∷ 10 ∷ 11 ∷ 12 ∷ 13 ∷ 14 ∷ 15 ∷ []) c 0 ≡ c
unfolding tabulate
top-cell c h = get_d_tabulate 16 (λ s. s) c h

module _ (bytes numbers : List ℕ) (n base k v : ℕ) where
  pub above-top : v + 1 ≡ n → k ≤ 16
      → RowOf k (above_cell bytes numbers n base k v)
      (0 ∷ 1 ∷ 2 ∷ 3 ∷ 4 ∷ 5 ∷ 6 ∷ 7 ∷ 8 ∷ 9 ∷ 10 ∷ 11 ∷ 12 ∷ 13 ∷ 14 ∷ 15 ∷ [])
  unfolding above_cell
  above-top e h = record { long = refl; cells = λ c l. rw (eq-eqb (v + 1) n e) (top-cell c (omega arith)) }

  pub above_parent : (p : ℕ) (row : List ℕ) → (v + 1 ≡ n → ⊥) → p ≡ parent_cell numbers v
      → RowOf k (λ c. get_or bytes (base + p * k + c) 0) row → RowOf k (above_cell bytes numbers n base k v) row
  unfolding above_cell
  above_parent p row e q R = record {
    long = R.long;
    cells = λ c l. rw (ne_eqb (v + 1) n e) (R.cells c l ∙ ap (λ (x : ℕ). get_or bytes (base + x * k + c) 0) q);
  }
