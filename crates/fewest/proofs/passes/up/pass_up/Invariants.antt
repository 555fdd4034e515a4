-- The nodes below v have their rows.
use Rattle.std.proofs.Common.{◌≡◌, length}
use Rattle.fewest.specs.inner.passes.Up.{Up}
use Rattle.fewest.proofs.passes.up.pass_up.Given as goal

abbrev pub invariant-loop-v : goal.invariant-loop-v
invariant-loop-v l =
    (length l.work ≡ length l.initial.work)
    × Up l.kinds l.labels l.leaves l.inner l.may l.s l.k l.v l.initial.work l.work
