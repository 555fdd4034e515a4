-- The nodes below v have their size and state.
use Rattle.allowed.specs.inner.masks.Up.{UpWritten}
use Rattle.allowed.proofs.masks.up.run_up.Given as goal

abbrev pub invariant-loop-v : goal.invariant-loop-v
invariant-loop-v l = UpWritten l.kinds l.labels l.leaves l.inner l.s l.k l.v l.fn.cells l.cells
