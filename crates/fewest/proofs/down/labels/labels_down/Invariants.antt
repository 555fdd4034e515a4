-- The nodes from v on have had their turns.
use Rattle.std.proofs.Common.{◌≡◌, length}
use Rattle.fewest.specs.inner.down.Down.{Down}
use Rattle.fewest.proofs.down.labels.labels_down.Given as goal

abbrev pub invariant-loop-v : goal.invariant-loop-v
invariant-loop-v l =
    (length l.work ≡ length l.initial.work)
    × Down l.kinds l.labels l.leaves l.inner l.may l.s l.k l.v l.initial.work l.work
