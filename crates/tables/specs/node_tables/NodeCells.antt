-- What a table of links says of a tree, cell by cell.
--
-- NodeCells t b == the four numbers of every node of t, as table b has them, are t's own
-- UpCells t b == of these the sizes and the parents: what the pass up writes or checks
-- UpTo t i b == the sizes of the nodes below i, and the parents of those whose parent is below i
-- DownFrom t i b == the depths and the jumps of the nodes from i on: what the pass down writes or checks
-- Parents t n b == t has n nodes and b has their parents
-- Beside k l n j == index j is neither cell k nor cell l of one of the first n nodes
-- UpWritten t i before after, DownWritten t i before after == the same, and no other cell changed
--
-- Not here: the table as one list (trees, Tables); that both say the same is proofs/CellLaws.
use Rattle.std.specs.Prelude.{ℕ, ◌+◌, ◌*◌, ◌≤◌, ◌<◌, ◌≡◌, List, get_or}
use Rattle.trees.specs.Tree.{Tree, size}
use Rattle.trees.specs.Numbering.{sub, parent, depth}
use Rattle.trees.specs.Jumps.{jump}
use Rattle.formats.specs.Layout.{node_columns, jump_column, depth_column, size_column}
use Rattle.tables.specs.node_tables.Cells.{parent_cell, jump_cell, depth_cell, size_cell}

pub record NodeCells (t : Tree) (b : List ℕ) : Type 0 where
  pub parents : (v : ℕ) → v < size t → parent_cell b v ≡ parent t v
  pub jumps : (v : ℕ) → v < size t → jump_cell b v ≡ jump t v
  pub depths : (v : ℕ) → v < size t → depth_cell b v ≡ depth t v
  pub sizes : (v : ℕ) → v < size t → size_cell b v ≡ size (sub t v)

pub record UpCells (t : Tree) (b : List ℕ) : Type 0 where
  pub sizes : (v : ℕ) → v < size t → size_cell b v ≡ size (sub t v)
  pub parents : (v : ℕ) → v < size t → parent_cell b v ≡ parent t v

-- a parent is there once its node is passed
pub record UpTo (t : Tree) (i : ℕ) (b : List ℕ) : Type 0 where
  pub sizes : (v : ℕ) → v < i → size_cell b v ≡ size (sub t v)
  pub parents : (v : ℕ) → v + 1 < size t → parent t v < i → parent_cell b v ≡ parent t v

pub record DownFrom (t : Tree) (i : ℕ) (b : List ℕ) : Type 0 where
  pub depths : (v : ℕ) → i ≤ v → v < size t → depth_cell b v ≡ depth t v
  pub jumps : (v : ℕ) → i ≤ v → v < size t → jump_cell b v ≡ jump t v

pub record Parents (t : Tree) (n : ℕ) (b : List ℕ) : Type 0 where
  pub count : size t ≡ n
  pub are : (v : ℕ) → v < n → parent_cell b v ≡ parent t v

abbrev pub Beside : ℕ → ℕ → ℕ → ℕ → Type 0
Beside k l n j = (v : ℕ) → v < n → (j ≡ v * node_columns + k → ⊥) × (j ≡ v * node_columns + l → ⊥)

pub record UpWritten (t : Tree) (i : ℕ) (before after : List ℕ) : Type 0 where
  pub cells : UpTo t i after
  pub kept : (j : ℕ) → Beside 0 size_column (size t) j → get_or after j 0 ≡ get_or before j 0

pub record AllUpWritten (t : Tree) (before after : List ℕ) : Type 0 where
  pub cells : UpCells t after
  pub kept : (j : ℕ) → Beside 0 size_column (size t) j → get_or after j 0 ≡ get_or before j 0

pub record DownWritten (t : Tree) (i : ℕ) (before after : List ℕ) : Type 0 where
  pub cells : DownFrom t i after
  pub kept : (j : ℕ) → Beside jump_column depth_column (size t) j → get_or after j 0 ≡ get_or before j 0
