-- `row_below` meets its contract, by the way each test went.
use Prim.Native.Nat.{ℕ, ◌+◌}
use mathlib.Core.Path.{sym, ap, ◌∙◌}
use Rattle.tables.specs.node_tables.Cells.{depth_cell}
use Rattle.colour_tables.specs.forests.Rows.{row}
use Rattle.colour_tables.proofs.forests.RowCells.{below-marked, below_none, below-same}
use Rattle.colour_tables.proofs.forests.rows.row_below.Goals as goal

pub returns-then-size_at-c : goal.returns-then-size_at-c
returns-then-size_at-c c =
    let g = c.args in
    ap (λ (x : ℕ). row g.p x (depth_cell g.table.now g.p + 1)) c.by_distances-jump.ensures
    ∙ sym (below-marked g.table.now g.c g.v g.p c.size_at.result c.size_at.ensures c.if-size_at-c.true)

pub returns-then-table-p-eq0 : goal.returns-then-table-p-eq0
returns-then-table-p-eq0 c =
    let g = c.args in
    sym (below_none g.table.now g.c g.v g.p c.size_at.result c.size_at.ensures c.if-size_at-c.false
    c.if-table-p-eq0.true)

pub returns : goal.returns
returns c =
    let g = c.args in
    sym (below-same g.table.now g.c g.v g.p c.size_at.result c.size_at.ensures c.if-size_at-c.false
    c.if-table-p-eq0.false)
