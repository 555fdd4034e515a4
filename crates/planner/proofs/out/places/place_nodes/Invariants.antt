-- The same items are still to be written, to the same places.
use Rattle.planner.proofs.out.PlaceLoop.{Placing}
use Rattle.planner.proofs.out.places.place_nodes.Given as goal

abbrev pub invariant-loop-v : goal.invariant-loop-v
invariant-loop-v l =
    Placing l.counts l.initial.plan l.initial.places l.plan l.places l.w.depth l.w.next l.w.left l.w.first l.v
