-- What the colours' numbers say of a tree, cell by cell.
--
-- ColourRow n step t part c v == node v's four numbers in colour c's table: parent, jump and depth among the nodes
--   where the colour falls, and the colour it lands on
-- ColourCells n step t nums == so for each colour above the lowest and each node of t
use Rattle.std.specs.Prelude.{ℕ, ◌<◌, ◌≡◌, List}
use Rattle.trees.specs.Tree.{Tree, size}
use Rattle.tables.specs.node_tables.Cells.{parent_cell, jump_cell, depth_cell, size_cell}
use Rattle.trees.specs.Ascents.{jump_by}
use Rattle.colours.specs.marks.Marks.{marks_above, marked_up}
use Rattle.colours.specs.Copies.{lands_at, falls_at}
use Rattle.colour_tables.specs.ColourCells.{colour_part}

pub record ColourRow (n : ℕ) (step : ℕ → ℕ → ℕ) (t : Tree) (part : List ℕ) (c v : ℕ) : Type 0 where
  pub parents : parent_cell part v ≡ marked_up t (falls_at n step t c) v
  pub jumps : jump_cell part v ≡ jump_by (marked_up t (falls_at n step t c)) (marks_above t (falls_at n step t c)) v
  pub depths : depth_cell part v ≡ marks_above t (falls_at n step t c) v
  pub lands : size_cell part v ≡ lands_at n step t c v

abbrev pub ColourCells : ℕ → (ℕ → ℕ → ℕ) → Tree → List ℕ → Type 0
ColourCells n step t nums =
    (c : ℕ) → 0 < c → c < n → (v : ℕ) → v < size t → ColourRow n step t (colour_part (size t) c nums) c v
