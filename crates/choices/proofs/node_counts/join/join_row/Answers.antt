-- One right state more.
use Rattle.choices.proofs.node_counts.JoinLoop.{row-start, row-accumulated}
use Rattle.choices.proofs.node_counts.join.join_row.Goals as goal

pub loop-q-init : goal.loop-q-init
loop-q-init c = row-start _ _ _ _ _ _ _ _ _ c.requires

pub loop-q-preserved : goal.loop-q-preserved
loop-q-preserved c =
    row-accumulated _ _ _ _ _ _ _ _ _ _ _ c.loop-q.invariant c.loop-q-test.true c.capped_times-y.result
    c.capped_times-y.ensures _ c.accumulate.ensures
