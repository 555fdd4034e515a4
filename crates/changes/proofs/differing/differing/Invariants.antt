-- KeepLoop of LastDifferingLaws.
use Rattle.changes.specs.inner.LastDiffering.{left_within}
use Rattle.changes.proofs.LastDifferingLaws.{KeepLoop}
use Rattle.changes.proofs.differing.differing.Given as goal

abbrev pub invariant-loop-i : goal.invariant-loop-i
invariant-loop-i l = KeepLoop l.labels l.nodes l.changes (left_within l.count l.left) l.i
