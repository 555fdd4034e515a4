-- A table of links cell by cell and as one list.
--     length-node_table_of       four numbers a node
--     link-cells             a buffer that begins with a tree's table has its four numbers at every node
--     cells-link             and back
--     take-table             what the build leaves begins with the table
--     cells_over             a buffer with these cells, and the rest as before, is the table and the excess
--     both-passes .. passes  the two passes of build and check give all cells
use Prim.Native.Nat.{ℕ, ◌+◌, ◌*◌, ◌≤◌, ◌<◌}
use mathlib.Core.Path.{◌≡◌, sym, ◌∙◌}
use mathlib.Core.List.{List, ◌++◌}
use native.Mathlib.Omega.{arith}
use lib.ListN.{length, get_or, take, drop}
use Rattle.trees.specs.Tree.{Tree, kinds_of, size}
use Rattle.trees.specs.Tables.{node_row, node_table_of}
use Rattle.list_laws.proofs.RowLaws.{length-rows, rows-of-cells, rows-over, take-over}
use Rattle.trees.proofs.TableRows.{length-node_row, node_row-cells}
use Rattle.trees.proofs.TableRows.{node_table_of-parent, node_table_of-jump, node_table_of-depth, node_table_of-size}
use Rattle.trees.proofs.PostorderLaws.{size_of, some-tree}
use Rattle.formats.specs.Checks.{node_table_length}
use Rattle.tables.specs.node_tables.Cells.{NodeTableArgs}
use Rattle.tables.specs.node_tables.NodeCells.{NodeCells, UpCells, DownFrom, Parents, AllUpWritten, DownWritten}
use Rattle.tables.specs.node_tables.inner.DownPass.{DownArgs}

pub length-node_table_of : (t : Tree) → length (node_table_of t) ≡ size t * 4
unfolding node_table_of
length-node_table_of t = length-rows (size t) 4 (node_row t) (λ v h. length-node_row t v)

table-cells : (t : Tree) (b : List ℕ) → take (size t * 4) b ≡ node_table_of t → NodeCells t b
table-cells t b e = record {
  parents = λ v h. node_table_of-parent t b e v h;
  jumps = λ v h. node_table_of-jump t b e v h;
  depths = λ v h. node_table_of-depth t b e v h;
  sizes = λ v h. node_table_of-size t b e v h;
}

pub link-cells : (t : Tree) (n : ℕ) (b : List ℕ) → n ≡ size t → take (node_table_length n) b ≡ node_table_of t → NodeCells t b
link-cells t n b z e = table-cells t b (rw (sym z) e)

row_of : (t : Tree) (b : List ℕ) → NodeCells t b → (v k : ℕ) → v < size t → k < 4
    → get_or b (v * 4 + k) 0 ≡ get_or (node_row t v) k 0
row_of t b c v k h l = node_row-cells t v b (c.parents v h) (c.jumps v h) (c.depths v h) (c.sizes v h) k l

pub cells-link : (t : Tree) (n : ℕ) (b : List ℕ) → n ≡ size t → node_table_length n ≤ length b → NodeCells t b
    → take (node_table_length n) b ≡ node_table_of t
unfolding node_table_of
cells-link t n b z room c =
    rw z (rows-of-cells (size t) 4 (node_row t) (λ v h. length-node_row t v) b (omega arith) (row_of t b c))

-- what the build leaves begins with the table
pub take-table : (t : Tree) (n : ℕ) (rest : List ℕ) → n ≡ size t
    → take (node_table_length n) (node_table_of t ++ rest) ≡ node_table_of t
unfolding node_table_of
take-table t n rest z = rw z (take-over (size t) 4 (node_row t) (λ v h. length-node_row t v) rest)

pub cells_over : (t : Tree) (before after : List ℕ) → length after ≡ length before → size t * 4 ≤ length before
    → NodeCells t after
    → ((j : ℕ) → size t * 4 ≤ j → get_or after j 0 ≡ get_or before j 0)
    → after ≡ node_table_of t ++ drop (size t * 4) before
unfolding node_table_of
cells_over t before after e room c kept =
    rows-over (size t) 4 (node_row t) (λ v h. length-node_row t v) before after e room (row_of t after c) kept

-- ---- the two passes

-- sizes and parents, depths and jumps are all cells
pub both-passes : (t : Tree) (b : List ℕ) → UpCells t b → DownFrom t 0 b → NodeCells t b
both-passes t b u d = record {
  parents = u.parents;
  jumps = λ v h. d.jumps v (omega arith) h;
  depths = λ v h. d.depths v (omega arith) h;
  sizes = u.sizes;
}

pub up-parents : (t : Tree) (ks b : List ℕ) → kinds_of t ≡ ks → UpCells t b → Parents t (length ks) b
up-parents t ks b e u = record {
  count = sym (size_of t ks e);
  are = λ v h. u.parents v (omega (arith, size_of t ks e));
}

-- the pass down can be made
pub down-args : (ks b : List ℕ) → NodeTableArgs ks (length b) → ((t : Tree) → kinds_of t ≡ ks → UpCells t b)
    → DownArgs (length ks) b
down-args ks b args all =
    let T : (t : Tree) × (kinds_of t ≡ ks) = some-tree ks args.postorder in
    record {
      tree = T.0;
      parents = up-parents T.0 ks b T.1 (all T.0 T.1);
      most = args.most;
      room = args.room;
    }

-- the pass down leaves sizes and parents, and both leave the excess
written-cells : (t : Tree) (b₀ b₁ b₂ : List ℕ) → AllUpWritten t b₀ b₁ → DownWritten t 0 b₁ b₂ → NodeCells t b₂
written-cells t b₀ b₁ b₂ u d =
    both-passes t b₂
    (record {
      sizes = λ v h. d.kept (v * 4 + 3) (λ x q. (omega arith, omega arith)) ∙ u.cells.sizes v h;
      parents = λ v h. d.kept (v * 4) (λ x q. (omega arith, omega arith)) ∙ u.cells.parents v h;
    })
    d.cells

pub passes : (ks b₀ b₁ b₂ : List ℕ) → length b₂ ≡ length b₀ → node_table_length (length ks) ≤ length b₀
    → ((t : Tree) → kinds_of t ≡ ks → AllUpWritten t b₀ b₁)
    → ((t : Tree) → Parents t (length ks) b₁ → DownWritten t 0 b₁ b₂)
    → (t : Tree) → kinds_of t ≡ ks → b₂ ≡ node_table_of t ++ drop (node_table_length (length ks)) b₀
passes ks b₀ b₁ b₂ len room ups downs t e =
    let z : length ks ≡ size t = size_of t ks e in
    let u : AllUpWritten t b₀ b₁ = ups t e in
    let d : DownWritten t 0 b₁ b₂ = downs t (up-parents t ks b₁ e u.cells) in
    rw z (cells_over t b₀ b₂ len (omega arith) (written-cells t b₀ b₁ b₂ u d)
    (λ j h. d.kept j (λ x q. (omega arith, omega arith)) ∙ u.kept j (λ x q. (omega arith, omega arith))))
