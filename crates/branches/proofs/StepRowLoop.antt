-- The iterations of the loop that writes a map of a branch table from the maps of two nodes and a label.
--     step-far-below, step-inside   what an iteration reads is inside
--     step_is                       and it is the state wanted
use Prim.Native.Nat.{ℕ, ◌+◌, ◌*◌, ◌<◌}
use mathlib.Core.Path.{◌≡◌, ap, ◌∙◌}
use mathlib.Core.List.{List}
use native.Mathlib.Omega.{arith}
use lib.ListN.{length, get_or}
use Rattle.tables.specs.StateCells.{map_cell}
use Rattle.tables.specs.inner.Rows.{RowTo}
use Rattle.tables.proofs.MapRowLaws.{row_other}
use Rattle.branches.specs.inner.Maps.{step_cell, StepRowArgs}

module _ (s v p j k a i : ℕ) (st b₀ b : List ℕ) (r : RowTo s (step_cell s b₀ p j st k a) v i b₀ b)
    (args : StepRowArgs b₀ s v p j (length st) k a) (h : i < s) where
  far-is : map_cell s b j i ≡ map_cell s b₀ j i
  far-is = row_other s (step_cell s b₀ p j st k a) v i b₀ b r j i args.far_other (omega arith) h

  pub step-far-below : map_cell s b j i < s
  step-far-below = rw far-is (args.far_below i h)

  near-is : map_cell s b p (map_cell s b j i) ≡ map_cell s b₀ p (map_cell s b₀ j i)
  near-is =
      ap (map_cell s b p) far-is
      ∙ row_other s (step_cell s b₀ p j st k a) v i b₀ b r p (map_cell s b₀ j i) args.near_other (omega arith)
      (args.far_below i h)

  pub step-inside : map_cell s b p (map_cell s b j i) * k + a < length st
  step-inside = rw near-is (args.inside (map_cell s b₀ j i) (args.far_below i h))

  pub step_is : get_or st (map_cell s b p (map_cell s b j i) * k + a) 0 ≡ step_cell s b₀ p j st k a i
  step_is = ap (λ (y : ℕ). get_or st (y * k + a) 0) near-is
