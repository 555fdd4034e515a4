-- What is left has the whole list's place.
use Rattle.questions.specs.inner.Scans.{Shortened}
use Rattle.questions.proofs.scan.without_eights.Given as goal

abbrev pub invariant-loop-i : goal.invariant-loop-i
invariant-loop-i l = Shortened l.c l.z l.list l.i

abbrev pub decreases-loop-i : goal.decreases-loop-i
decreases-loop-i l = l.i
