-- A node's row in a colour's table, from its parent's.
--
-- row_below b c v p == the row of node v below its parent p, by colour c's table b
-- next_row nums n c v == the row of node v; the root's is itself, at depth 0
-- row_cells r l == the four numbers of row r where the colour lands on l
-- put_row nums at r l == the numbers with these from `at` on
-- put_colour nums n c v l == the numbers with the row of node v in colour c's table; the lowest colour's table is the
--   plan's own
-- RowIs t m b v == node v's row in table b is that of the forest of marked nodes
-- Given t m n c v nums == what node v's row is made of: the first table has its parent, and colour c's table shows
--   which of the nodes above v's number m marks, and has their rows
-- BelowArgs, NextArgs, ColourArgs == what the functions need: every read inside, every sum in 16 bits
--
-- Any marks m: a row is about the forest of marked nodes (colours/marks), whichever nodes those are.
use Rattle.std.specs.Prelude.{ℕ, ◌+◌, ◌*◌, ◌≤◌, ◌<◌, ◌≡◌, Bool, cond, List, [], ◌∷◌, ltb, eqb, length, set}
use Rattle.trees.specs.Tree.{Tree, size}
use Rattle.trees.specs.Numbering.{parent}
use Rattle.tables.specs.node_tables.Cells.{parent_cell, jump_cell, depth_cell, size_cell}
use Rattle.tables.specs.node_tables.inner.DownPass.{by_distances, JumpArgs}
use Rattle.trees.specs.Ascents.{jump_by}
use Rattle.colours.specs.marks.Marks.{marks_above, marked_up}
use Rattle.colour_tables.specs.ColourCells.{colour_part}
use Rattle.colour_tables.specs.declared.forests.rows.Row.{Row}

abbrev pub row : ℕ → ℕ → ℕ → Row
row u j d = record { up = u; jump = j; depth = d }

unfoldable pub row_below : List ℕ → ℕ → ℕ → ℕ → Row
row_below b c v p =
    cond (ltb (size_cell b p) c)
    (row p (by_distances b p) (depth_cell b p + 1))
    (cond (eqb (depth_cell b p) 0) (row v v 0) (row (parent_cell b p) (jump_cell b p) (depth_cell b p)))

unfoldable pub next_row : List ℕ → ℕ → ℕ → ℕ → Row
next_row nums n c v = cond (eqb (v + 1) n) (row v v 0) (row_below (colour_part n c nums) c v (parent_cell nums v))

abbrev pub row_cells : Row → ℕ → List ℕ
row_cells r l = r.up ∷ r.jump ∷ r.depth ∷ l ∷ []

abbrev pub put_row : List ℕ → ℕ → Row → ℕ → List ℕ
put_row nums at r l = set (set (set (set nums at r.up) (at + 1) r.jump) (at + 2) r.depth) (at + 3) l

unfoldable pub put_colour : List ℕ → ℕ → ℕ → ℕ → ℕ → List ℕ
put_colour nums n c v l = cond (ltb c 1) nums (put_row nums (c * (n * 4) + v * 4) (next_row nums n c v) l)

pub record BelowArgs (b : List ℕ) (c v p : ℕ) : Type 0 where
  pub small : v ≤ 65535
  pub at : p * 4 + 4 ≤ length b
  pub fits : depth_cell b p + 1 ≤ 65535
  pub up : JumpArgs b p

pub record NextArgs (nums : List ℕ) (n c v : ℕ) : Type 0 where
  pub most : n ≤ 65535
  pub few : c ≤ 15
  pub at : v < n
  pub room : c * (n * 4) + n * 4 ≤ length nums
  pub below : (v + 1 ≡ n → ⊥) → BelowArgs (colour_part n c nums) c v (parent_cell nums v)

abbrev pub ColourArgs : List ℕ → ℕ → ℕ → ℕ → Type 0
ColourArgs nums n c v = 0 < c → NextArgs nums n c v

pub record RowIs (t : Tree) (m : ℕ → Bool) (b : List ℕ) (v : ℕ) : Type 0 where
  pub parents : parent_cell b v ≡ marked_up t m v
  pub jumps : jump_cell b v ≡ jump_by (marked_up t m) (marks_above t m) v
  pub depths : depth_cell b v ≡ marks_above t m v

pub record Given (t : Tree) (m : ℕ → Bool) (n c v : ℕ) (nums : List ℕ) : Type 0 where
  pub count : size t ≡ n
  pub parents : v + 1 < n → parent_cell nums v ≡ parent t v
  pub marks : (w : ℕ) → v < w → w < n → ltb (size_cell (colour_part n c nums) w) c ≡ m w
  pub rows : (w : ℕ) → v < w → w < n → RowIs t m (colour_part n c nums) w
