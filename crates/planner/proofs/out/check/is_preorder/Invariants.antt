-- The counts that are left give the answer, and no more nodes wait than there are counts, and one list of children.
use Rattle.planner.proofs.out.CheckLoop.{Waiting}
use Rattle.planner.proofs.out.check.is_preorder.Given as goal

abbrev pub invariant-loop-i : goal.invariant-loop-i
invariant-loop-i l = Waiting l.counts l.wait l.i
