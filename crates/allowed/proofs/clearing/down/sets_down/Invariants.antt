-- The nodes from v on have had their iteration.
use Rattle.std.proofs.Common.{ℕ, List, length}
use Rattle.allowed.specs.inner.Inputs.{PassArgs}
use Rattle.allowed.specs.inner.clearing.Down.{DownWritten}
use Rattle.allowed.proofs.clearing.down.sets_down.Given as goal

abbrev pub invariant-loop-v : goal.invariant-loop-v
invariant-loop-v l = (leaves marks first : List ℕ) → PassArgs l.kinds l.labels leaves l.inner l.s l.k
    → DownWritten l.kinds l.labels leaves l.inner marks l.s l.k (length l.kinds) l.c first l.fn.cells
    → DownWritten l.kinds l.labels leaves l.inner marks l.s l.k l.v l.set first l.cells
