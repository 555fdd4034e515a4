-- r is the least of the costs below j.
use Rattle.std.proofs.Common.{◌≡◌}
use Rattle.fewest.specs.Least.{least_to}
use Rattle.fewest.specs.inner.down.Root.{root_cost}
use Rattle.fewest.proofs.down.root.root_least.Given as goal

abbrev pub invariant-loop-j : goal.invariant-loop-j
invariant-loop-j l =
    l.r ≡ least_to 65536 l.j (root_cost l.work l.marks l.at l.mark)
