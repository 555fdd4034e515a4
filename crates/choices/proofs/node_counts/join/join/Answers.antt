-- One left state more.
use Rattle.choices.proofs.node_counts.JoinLoop.{join-start, join-next}
use Rattle.choices.proofs.node_counts.join.join.Goals as goal

pub loop-p-init : goal.loop-p-init
loop-p-init c = join-start _ _ _ _ _ _ _ _ c.requires

pub loop-p-preserved : goal.loop-p-preserved
loop-p-preserved c = join-next _ _ _ _ _ _ _ _ _ _ c.loop-p.invariant c.loop-p-test.true _ c.join_row.ensures
