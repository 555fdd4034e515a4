-- The labels and kinds that are left give the answer.
use Rattle.std.proofs.Common.{◌≡◌, drop}
use Rattle.planner.specs.inner.ImageTests.{labels_fit}
use Rattle.planner.proofs.home.check.labels_fit.Given as goal

abbrev pub invariant-loop-i : goal.invariant-loop-i
invariant-loop-i l = labels_fit (drop l.i l.labels) (drop l.i l.kinds) ≡ labels_fit l.labels l.kinds
