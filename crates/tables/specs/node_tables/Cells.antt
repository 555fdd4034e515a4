-- The cells of a table of links: four 16-bit numbers for each node in node order.
--
-- parent_cell b v, jump_cell b v, depth_cell b v, size_cell b v == what table b says of node v; 0 past its end
-- cell_forest n b == the parents, jumps and depths of n nodes as table b has them: what a climb on any table follows
-- is_in_subtree_on b c v == by table b's size of node c: whether node v is c or below it
-- NodeTableArgs ks m == kinds of a tree within the limit, and a buffer of m numbers that has room for its table
use Rattle.std.specs.Prelude.{ℕ, ◌+◌, ◌*◌, ◌≤◌, ◌≡◌, Bool, true, List, length, get_or}
use Rattle.trees.specs.Numbering.{is_in_subtree}
use Rattle.trees.specs.Postorder.{is_postorder}
use Rattle.trees.specs.Climb.{Forest}
use Rattle.formats.specs.Layout.{node_columns, jump_column, depth_column, size_column}
use Rattle.formats.specs.Limits.{node_limit}
use Rattle.formats.specs.Checks.{node_table_length}

abbrev pub parent_cell : List ℕ → ℕ → ℕ
parent_cell b v = get_or b (v * node_columns) 0

abbrev pub jump_cell : List ℕ → ℕ → ℕ
jump_cell b v = get_or b (v * node_columns + jump_column) 0

abbrev pub depth_cell : List ℕ → ℕ → ℕ
depth_cell b v = get_or b (v * node_columns + depth_column) 0

abbrev pub size_cell : List ℕ → ℕ → ℕ
size_cell b v = get_or b (v * node_columns + size_column) 0

abbrev pub cell_forest : ℕ → List ℕ → Forest
cell_forest n b = record { nodes = n; parent = parent_cell b; jump = jump_cell b; depth = depth_cell b }

abbrev pub is_in_subtree_on : List ℕ → ℕ → ℕ → Bool
is_in_subtree_on b c v = is_in_subtree c (size_cell b c) v

pub record NodeTableArgs (ks : List ℕ) (m : ℕ) : Type 0 where
  pub postorder : is_postorder ks ≡ true
  pub most : length ks ≤ node_limit
  pub room : node_table_length (length ks) ≤ m
