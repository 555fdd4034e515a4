-- What is on top is still to be written, and the same is written in the end.
use Rattle.planner.proofs.home.ReleaseLoop.{Releasing}
use Rattle.planner.proofs.home.read.release.Given as goal

abbrev pub invariant-loop-top : goal.invariant-loop-top
invariant-loop-top l = Releasing l.n l.depth l.left l.initial.file l.top l.file
