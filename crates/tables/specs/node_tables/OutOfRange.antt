-- Numbers that lead outside the plan, or do not rise.
--
-- Childless b x == by table b's size of node x - 1 the left child of node x would lie outside the plan
-- NodeTableOutOfRange n b == a value of table b, of n nodes, that leads outside the plan or does not rise: what 18 means of the 16-bit numbers.
--   A table as built has none (proofs/node_tables/RangeLaws).
use Rattle.std.specs.Prelude.{ℕ, ◌-◌, ◌<◌, ◌≡◌, false, List, ◌⊎◌}
use Rattle.trees.specs.LinkOutOfRange.{LinkOutOfRange}
use Rattle.tables.specs.node_tables.Cells.{parent_cell, jump_cell, depth_cell, size_cell, cell_forest, is_in_subtree_on}

abbrev pub Childless : List ℕ → ℕ → Type 0
Childless b x = (x ≡ 0) ⊎ (x - 1 < size_cell b (x - 1))

pub data NodeTableOutOfRange (n : ℕ) (b : List ℕ) : Type 0 where
  -- a parent or a jump
  link : LinkOutOfRange (cell_forest n b) → NodeTableOutOfRange n b
  -- node x, to which a link of v leads, has no two children in the plan
  childless : (v x : ℕ) → v < n → 0 < depth_cell b v → (x ≡ parent_cell b v) ⊎ (x ≡ jump_cell b v) → Childless b x → NodeTableOutOfRange n b
  -- node v is at the top, and node u not below it: no move from v rises
  apart : (v u : ℕ) → v < n → u < n → depth_cell b v ≡ 0 → is_in_subtree_on b v u ≡ false → NodeTableOutOfRange n b
