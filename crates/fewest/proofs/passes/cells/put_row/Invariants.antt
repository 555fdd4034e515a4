-- The costs below j are copied.
use Rattle.std.proofs.Common.{◌+◌, ◌*◌}
use Rattle.fewest.proofs.passes.PutLoop.{RowPart}
use Rattle.fewest.proofs.passes.cells.put_row.Given as goal

abbrev pub invariant-loop-j : goal.invariant-loop-j
invariant-loop-j l =
    RowPart (l.v * (l.s + 1)) l.j l.row l.initial.work l.work
