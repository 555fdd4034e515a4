-- The nodes from v on have had their turns.
use Rattle.std.proofs.Common.{ℕ, List, length}
use Rattle.allowed.specs.inner.masks.Down.{DownWritten}
use Rattle.allowed.proofs.masks.down.come_down.Given as goal

abbrev pub invariant-loop-v : goal.invariant-loop-v
invariant-loop-v l = (marks first : List ℕ)
    → DownWritten l.kinds l.labels l.leaves l.inner marks l.s l.k (length l.kinds) first l.fn.cells
    → DownWritten l.kinds l.labels l.leaves l.inner marks l.s l.k l.v first l.cells
