-- `lowest_at` meets its contract.
use Rattle.tables.specs.node_tables.Cells.{size_cell, cell_forest}
use Rattle.colour_questions.proofs.path_drops.DropCases.{lowest-fell, lowest-kept}
use Rattle.colour_questions.proofs.path_drops.drops.lowest_at.Goals as goal

pub returns-then-size_at-c : goal.returns-then-size_at-c
returns-then-size_at-c c =
    lowest-fell (cell_forest c.args.n c.args.table.now) (size_cell c.args.table.now) c.args.c
    c.args.v
    c.size_at.result c.size_at.ensures c.if-size_at-c.true

pub returns : goal.returns
returns c =
    lowest-kept (cell_forest c.args.n c.args.table.now) (size_cell c.args.table.now) c.args.c
    c.args.v
    c.size_at.result c.size_at.ensures c.parent_at.result
    c.parent_at.ensures
    c.if-size_at-c.false
