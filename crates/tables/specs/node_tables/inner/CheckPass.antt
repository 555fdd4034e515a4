-- The full check of a table of links: the two passes, comparing where the build writes.
--
-- inner_matches b v == whether inner node v has the size that its children's give, and is both children's parent
-- up_matches ks b v == the same of node v, leaf (size 1) or inner by the kinds ks
-- down_matches b v == whether node v has the depth and the jump that its parent's give
-- UpArgs ks b v == what up_matches needs of the table
-- Tells r P Q == yes gives P, no denies Q
--
-- Each reads only what earlier iterations have compared, so that no cell leads outside the table.
use Rattle.std.specs.Prelude.{ℕ, ◌+◌, ◌-◌, ◌*◌, ◌≤◌, ◌<◌, ◌≡◌, Bool, true, false, cond, ◌&&◌, List, eqb, length, get_or}
use Rattle.formats.specs.Layout.{node_columns}
use Rattle.tables.specs.node_tables.Cells.{parent_cell, jump_cell, depth_cell, size_cell}
use Rattle.tables.specs.node_tables.inner.UpPass.{left_of, inner_size, InnerArgs}
use Rattle.tables.specs.node_tables.inner.DownPass.{child_jump}

unfoldable pub inner_matches : List ℕ → ℕ → Bool
inner_matches b v =
    eqb (size_cell b v) (inner_size b v) && (eqb (parent_cell b (v - 1)) v && eqb (parent_cell b (left_of b v)) v)

unfoldable pub up_matches : List ℕ → List ℕ → ℕ → Bool
up_matches ks b v = cond (eqb (get_or ks v 0) 0) (eqb (size_cell b v) 1) (inner_matches b v)

unfoldable pub down_matches : List ℕ → ℕ → Bool
down_matches b v =
    eqb (depth_cell b v) (depth_cell b (parent_cell b v) + 1) && eqb (jump_cell b v) (child_jump b (parent_cell b v))

pub record UpArgs (ks b : List ℕ) (v : ℕ) : Type 0 where
  pub at : v < length ks
  pub room : v * node_columns + node_columns ≤ length b
  pub inner : (get_or ks v 0 ≡ 0 → ⊥) → InnerArgs b v

pub record Tells (r : Bool) (P Q : Type 0) : Type 0 where
  pub yes : r ≡ true → P
  pub no : r ≡ false → Q → ⊥
