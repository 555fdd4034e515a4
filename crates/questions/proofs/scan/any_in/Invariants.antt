-- The answer so far, or any of the entries that are left, is the answer.
use Rattle.std.proofs.Common.{◌≡◌, ◌||◌, drop}
use Rattle.questions.specs.inner.Scans.{any_in}
use Rattle.questions.proofs.scan.any_in.Given as goal

abbrev pub invariant-loop-e : goal.invariant-loop-e
invariant-loop-e l = (l.any || any_in l.c l.z (drop l.e-index l.list)) ≡ any_in l.c l.z l.list
