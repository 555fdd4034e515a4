-- `seen_at` meets its contract.
use Prim.Native.Nat.{◌+◌, ◌*◌, ◌≤◌}
use native.Mathlib.Omega.{arith}
use Rattle.tables.specs.node_tables.Cells.{size_cell, cell_forest}
use Rattle.colour_questions.proofs.path_drops.DropCases.{seen-fell, seen-kept}
use Rattle.colour_questions.proofs.path_drops.drops.seen_at.Goals as goal

pub returns-then-size_at-c : goal.returns-then-size_at-c
returns-then-size_at-c c =
    let bound : c.depth_at-d.result ≤ 65535 =
    (omega (arith, c.depth_at-d.ensures, c.type_inv.table (c.args.v * 4 + 2))) in
    let g = c.args in (
      seen-fell (cell_forest g.n g.table.now) (size_cell g.table.now) g.c g.v _
          c.size_at.ensures _
          c.depth_at-d.ensures c.if-size_at-c.true,
      omega (arith, bound),
    )

pub returns : goal.returns
returns c =
    let bound : c.depth_at-d.result ≤ 65535 =
    (omega (arith, c.depth_at-d.ensures, c.type_inv.table (c.args.v * 4 + 2))) in
    let g = c.args in (
      seen-kept (cell_forest g.n g.table.now) (size_cell g.table.now) g.c g.v _
          c.size_at.ensures _
          c.depth_at-d.ensures c.if-size_at-c.false,
      omega (arith, bound),
    )
