-- The nodes below v have their size and state.
use Rattle.std.proofs.Common.{◌≡◌, length}
use Rattle.allowed.specs.inner.masks.Up.{UpWritten}
use Rattle.fewest.proofs.run.run_up.Given as goal

abbrev pub invariant-loop-v : goal.invariant-loop-v
invariant-loop-v l =
    (length l.cells ≡ length l.initial.cells)
    × UpWritten l.kinds l.labels l.leaves l.inner l.s l.k l.v l.initial.cells l.cells
