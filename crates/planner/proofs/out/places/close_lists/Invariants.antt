-- The same items are still to be written, to the same places, and the stack gets lower.
use Rattle.planner.proofs.out.CloseLoop.{Closing}
use Rattle.planner.proofs.out.places.close_lists.Given as goal

abbrev pub invariant-loop-top : goal.invariant-loop-top
invariant-loop-top l = Closing l.plan l.depth l.next l.initial.places l.top l.at l.closing l.places

abbrev pub decreases-loop-top : goal.decreases-loop-top
decreases-loop-top l = l.top
