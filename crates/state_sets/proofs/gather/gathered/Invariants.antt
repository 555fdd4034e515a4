-- r is the set among the first i positions.
use Rattle.std.proofs.Common.{◌≡◌, ◌^◌, ◌<◌}
use Rattle.state_sets.specs.inner.Gather.{gathered_from}
use Rattle.state_sets.proofs.gather.gathered.Given as goal

abbrev pub invariant-loop-i : goal.invariant-loop-i
invariant-loop-i l = (l.r ≡ gathered_from l.table l.base l.stride l.set l.i) × (l.r < 2 ^ l.i)
