-- The pass up: from the first node to the root, each node's size from its children's, and the node as its children's
-- parent.
--
-- left_of b v == the left child of inner node v, by the sizes in table b; its right child is v - 1
-- inner_size b v == the size of inner node v, by the sizes of its children
-- inner_iteration b v == table b with inner node v's size and with v as the parent of its children
-- up_iteration b v c == the same for node v of kind c: with its size cleared first, a leaf has no other children than
--   itself
-- InnerArgs b v, TurnArgs b v c == what these need of the table
use Rattle.std.specs.Prelude.{ℕ, ◌+◌, ◌-◌, ◌*◌, ◌≤◌, ◌<◌, List, length, set}
use Rattle.formats.specs.Layout.{node_columns, size_column}
use Rattle.tables.specs.node_tables.Cells.{size_cell}

abbrev pub left_of : List ℕ → ℕ → ℕ
left_of b v = v - 1 - size_cell b (v - 1)

abbrev pub inner_size : List ℕ → ℕ → ℕ
inner_size b v = size_cell b (left_of b v) + size_cell b (v - 1) + 1

-- the iteration of node v of size s with right child r and left child l
abbrev pub iteration : List ℕ → ℕ → ℕ → ℕ → ℕ → List ℕ
iteration b v s r l = set (set (set b (v * node_columns + size_column) s) (r * node_columns) v) (l * node_columns) v

abbrev pub inner_iteration : List ℕ → ℕ → List ℕ
inner_iteration b v = iteration b v (inner_size b v) (v - 1) (left_of b v)

abbrev pub cleared : List ℕ → ℕ → List ℕ
cleared b v = set b (v * node_columns + size_column) 0

-- the left of the two where node r is the right one
abbrev pub before : List ℕ → ℕ → ℕ
before b r = r - size_cell b r

abbrev pub up_iteration : List ℕ → ℕ → ℕ → List ℕ
up_iteration b v c =
    iteration (cleared b v) v (size_cell (cleared b v) (before (cleared b v) (v - c)) + size_cell (cleared b v)
    (v - c) + 1)
    (v - c) (before (cleared b v) (v - c))

pub record InnerArgs (b : List ℕ) (v : ℕ) : Type 0 where
  pub pos : 0 < v
  pub small : v ≤ 65535
  pub room : v * node_columns + node_columns ≤ length b
  pub right : size_cell b (v - 1) < v
  pub fits : inner_size b v ≤ 65535

pub record TurnArgs (b : List ℕ) (v c : ℕ) : Type 0 where
  pub kind : c ≤ v
  pub small : v ≤ 65535
  pub room : v * node_columns + node_columns ≤ length b
  pub right : size_cell (cleared b v) (v - c) ≤ v - c
  pub fits : size_cell (cleared b v) (before (cleared b v) (v - c)) + size_cell (cleared b v) (v - c) + 1 ≤ 65535
