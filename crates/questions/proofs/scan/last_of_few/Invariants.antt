-- The entries before place i have the whole list's place.
use Rattle.questions.specs.inner.Scans.{Shortened}
use Rattle.questions.proofs.scan.last_of_few.Given as goal

abbrev pub invariant-loop-i : goal.invariant-loop-i
invariant-loop-i l = Shortened l.c l.z l.list l.i
