-- The nodes below v have had their iteration.
use Rattle.allowed.specs.inner.clearing.Up.{UpWritten}
use Rattle.allowed.proofs.clearing.up.pairs_up.Given as goal

abbrev pub invariant-loop-v : goal.invariant-loop-v
invariant-loop-v l = UpWritten l.kinds l.labels l.leaves l.inner l.s l.k l.v l.fn.cells l.cells
