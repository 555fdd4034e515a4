-- One node more is laid in each iteration.
use Rattle.std.proofs.Common.{length-set, arith}
use Rattle.planner.proofs.out.LayLoop.{length-labels-is, place_inside, laying-iteration, laying-end}
use Rattle.planner.proofs.out.lay.lay_nodes.Goals as goal

pub bounds-places-v : goal.bounds-places-v
bounds-places-v c =
    omega (arith, length-labels-is c.requires.0 _ _ c.requires.1.nodes, c.requires.1.nodes.longer)

pub bounds-plan-place : goal.bounds-plan-place
bounds-plan-place c =
    omega (arith, place_inside c.requires.0 _ _ _ _ c.requires.1 c.loop-v.v (omega arith), c.requires.1.room)

pub bounds-plan-size : goal.bounds-plan-size
bounds-plan-size c =
    simp length-set
    (omega (arith, place_inside c.requires.0 _ _ _ _ c.requires.1 c.loop-v.v (omega arith), c.requires.1.room))

pub loop-v-preserved : goal.loop-v-preserved
loop-v-preserved c = λ f A. laying-iteration f _ _ _ _ A c.loop-v.v (omega arith) _ (c.loop-v.invariant f A)

pub returns : goal.returns
returns c = λ f A. laying-end f _ _ _ _ A c.loop-v.v _ (c.loop-v.invariant f A) (omega arith)
