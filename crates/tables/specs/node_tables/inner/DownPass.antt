-- The pass down: from the root to the first node, each node's depth and jump from its parent's.
--
-- by_distances b p == the jump of a child of node p, by the depths and jumps in table b: the two-distances rule
-- by_length b p == the same by the length of the child's jump, from the table of lengths
-- child_jump b p == the one where the child's depth is below 1,024, else the other
-- put b v j d == table b with jump j and depth d for node v
-- node_iteration b v == table b with node v's jump and depth, by its parent's
-- JumpArgs b p, NodeArgs b v == what these need of the table
-- DownArgs n b == table b has the parents of a tree of n nodes, within the limit, and room for the rest
use Rattle.std.specs.Prelude.{ℕ, ◌+◌, ◌*◌, ◌≤◌, cond, List, eqb, ltb, length, get_or, set}
use Rattle.trees.specs.Tree.{Tree}
use Rattle.trees.specs.Jumps.{two_distances}
use Rattle.formats.specs.Layout.{node_columns, jump_column, depth_column}
use Rattle.formats.specs.Limits.{node_limit}
use Rattle.formats.specs.Checks.{node_table_length}
use Rattle.tables.specs.node_tables.Cells.{parent_cell, jump_cell, depth_cell}
use Rattle.tables.specs.node_tables.NodeCells.{Parents}
use Rattle.tables.specs.node_tables.JumpLengths.{length_count, jump_lengths}

-- "if depth(p) - depth(jump p) equals depth(jump p) - depth(jump of jump p), its jump is the jump of jump p; else p"
abbrev pub by_distances : List ℕ → ℕ → ℕ
by_distances b p =
    two_distances (depth_cell b p) (depth_cell b (jump_cell b p)) (depth_cell b (jump_cell b (jump_cell b p)))
    (jump_cell b (jump_cell b p)) p

-- a length of 1 is the parent's, any other that of the jump of its jump
abbrev pub by_length : List ℕ → ℕ → ℕ
by_length b p = cond (eqb (get_or jump_lengths (depth_cell b p + 1) 0) 1) p (jump_cell b (jump_cell b p))

-- "For depths below 1,024 the jump's length shall come from a constant table of 1,024 numbers, and from the rule above that."
abbrev pub child_jump : List ℕ → ℕ → ℕ
child_jump b p = cond (ltb (depth_cell b p + 1) length_count) (by_length b p) (by_distances b p)

abbrev pub put : List ℕ → ℕ → ℕ → ℕ → List ℕ
put b v j d = set (set b (v * node_columns + jump_column) j) (v * node_columns + depth_column) d

abbrev pub node_iteration : List ℕ → ℕ → List ℕ
node_iteration b v = put b v (child_jump b (parent_cell b v)) (depth_cell b (parent_cell b v) + 1)

pub record JumpArgs (b : List ℕ) (p : ℕ) : Type 0 where
  pub small : p ≤ 65535
  pub at : p * node_columns + node_columns ≤ length b
  pub once : jump_cell b p * node_columns + node_columns ≤ length b
  pub twice : jump_cell b (jump_cell b p) * node_columns + node_columns ≤ length b
  pub falls : depth_cell b (jump_cell b p) ≤ depth_cell b p
  pub falls_again : depth_cell b (jump_cell b (jump_cell b p)) ≤ depth_cell b (jump_cell b p)

pub record NodeArgs (b : List ℕ) (v : ℕ) : Type 0 where
  pub at : v * node_columns + node_columns ≤ length b
  pub fits : depth_cell b (parent_cell b v) + 1 ≤ 65535
  pub up : JumpArgs b (parent_cell b v)

pub record DownArgs (n : ℕ) (b : List ℕ) : Type 0 where
  pub tree : Tree
  pub parents : Parents tree n b
  pub most : n ≤ node_limit
  pub room : node_table_length n ≤ length b
