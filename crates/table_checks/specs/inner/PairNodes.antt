-- The node table's numbers of a node's two children, tested at their parent with every index forced into range, so that
-- nodes can be tested in any order.
--
-- within n x == x where it is below n, else 0
-- pair_by_distances n b v == the jump of a child of node v by the two distances, in a table b of n nodes
-- pair_by_length n b v == the same by the length of the child's jump, from the table of lengths (tables/node_tables)
-- pair_jump n b v == the one where the child's depth is below 1,024, else the other: child_jump (tables/node_tables), inside
-- pair_nodes n b v == whether inner node v's size, and its children's parents, depths and jumps, follow from their
--   neighbours'
-- jump_unit, depth_unit, size_unit == what jump, depth and size count in one number; the parent counts 1
-- packed p j d == three 16-bit numbers as one; links_cell b v == parent, jump and depth of node v so
-- numbers_cell b v == these and the size of node v, the size above
-- root_node b v == whether node v has the root's parent, jump and depth
-- PairArgs n b v == node v is not the first, and n nodes within the limit have room in b
-- RootArgs b v == what root_node reads lies inside
--
-- On a right table within changes nothing (proofs/PairNodeLaws).
use Rattle.std.specs.Prelude.{ℕ, ◌+◌, ◌-◌, ◌*◌, ◌≤◌, ◌<◌, Bool, cond, ◌&&◌, List, eqb, ltb, length, get_or}
use Rattle.formats.specs.Layout.{node_columns}
use Rattle.formats.specs.Limits.{node_limit}
use Rattle.formats.specs.Checks.{node_table_length}
use Rattle.tables.specs.node_tables.Cells.{parent_cell, jump_cell, depth_cell, size_cell}
use Rattle.tables.specs.node_tables.JumpLengths.{length_count, jump_lengths}
use Rattle.tables.specs.node_tables.inner.UpPass.{left_of, inner_size}

abbrev pub within : ℕ → ℕ → ℕ
within n x = cond (ltb x n) x 0

abbrev pub pair_by_distances : ℕ → List ℕ → ℕ → ℕ
pair_by_distances n b v =
    cond
    (eqb (depth_cell b v + depth_cell b (within n (jump_cell b (within n (jump_cell b v)))))
    (depth_cell b (within n (jump_cell b v)) + depth_cell b (within n (jump_cell b v))))
    (jump_cell b (within n (jump_cell b v))) v

abbrev pub pair_by_length : ℕ → List ℕ → ℕ → ℕ
pair_by_length n b v = cond (eqb (get_or jump_lengths (depth_cell b v + 1) 0) 1) v (jump_cell b (within n (jump_cell b v)))

abbrev pub pair_jump : ℕ → List ℕ → ℕ → ℕ
pair_jump n b v = cond (ltb (depth_cell b v + 1) length_count) (pair_by_length n b v) (pair_by_distances n b v)

-- both children's cell c is x
abbrev pub both_are : (ℕ → ℕ) → ℕ → ℕ → ℕ → Bool
both_are c r l x = eqb (c r) x && eqb (c l) x

unfoldable pub pair_nodes : ℕ → List ℕ → ℕ → Bool
pair_nodes n b v =
    eqb (size_cell b v) (inner_size b v)
    && (both_are (parent_cell b) (v - 1) (left_of b v) v
    && (both_are (depth_cell b) (v - 1) (left_of b v) (depth_cell b v + 1)
    && both_are (jump_cell b) (v - 1) (left_of b v) (pair_jump n b v)))

abbrev pub jump_unit : ℕ
jump_unit = 65536

abbrev pub depth_unit : ℕ
depth_unit = 4294967296

abbrev pub size_unit : ℕ
size_unit = 281474976710656

abbrev pub packed : ℕ → ℕ → ℕ → ℕ
packed p j d = d * depth_unit + (j * jump_unit + p)

abbrev pub links_cell : List ℕ → ℕ → ℕ
links_cell b v = packed (parent_cell b v) (jump_cell b v) (depth_cell b v)

abbrev pub numbers_cell : List ℕ → ℕ → ℕ
numbers_cell b v = size_cell b v * size_unit + links_cell b v

unfoldable pub root_node : List ℕ → ℕ → Bool
root_node b v = eqb (parent_cell b v) v && (eqb (jump_cell b v) v && eqb (depth_cell b v) 0)

pub record PairArgs (n : ℕ) (b : List ℕ) (v : ℕ) : Type 0 where
  pub pos : 0 < v
  pub inside : v < n
  pub most : n ≤ node_limit
  pub room : node_table_length n ≤ length b

pub record RootArgs (b : List ℕ) (v : ℕ) : Type 0 where
  pub most : v ≤ node_limit
  pub room : v * node_columns + node_columns ≤ length b
