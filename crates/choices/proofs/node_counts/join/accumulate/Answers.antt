-- One label more, and the cell that it reads.
use Rattle.choices.proofs.node_counts.AccumulateLoop.{accumulating-start, accumulating-next, accumulating-done}
use Rattle.choices.proofs.node_counts.join.accumulate.Goals as goal

pub loop-b-init : goal.loop-b-init
loop-b-init c = accumulating-start _ _ _ _ _ _ _ _ _ c.requires

pub loop-b-preserved : goal.loop-b-preserved
loop-b-preserved c =
    accumulating-next _ _ _ _ _ _ _ _ _ _ _ c.loop-b.invariant c.loop-b-test.true c.capped_add.result c.capped_add.ensures

pub returns : goal.returns
returns c = accumulating-done _ _ _ _ _ _ _ _ _ _ _ c.loop-b.invariant c.loop-b-test.false
