-- One move less is left at each iteration.
use Rattle.std.proofs.Common.{arith}
use Rattle.tables.proofs.ReplayLaws.{replaying-iteration, replaying-lost, replaying-done}
use Rattle.tables.proofs.replays.replay.Goals as goal

pub returns-then-s-y : goal.returns-then-s-y
returns-then-s-y c =
    replaying-lost _ _ _ _ _ _ _ _ _ _ c.loop-i.invariant (omega arith) c.move_state-y.result c.move_state-y.ensures
    c.if-s-y.true

pub loop-i-preserved : goal.loop-i-preserved
loop-i-preserved c =
    replaying-iteration _ _ _ _ _ _ _ _ _ _ c.loop-i.invariant (omega arith) c.move_state-y.result
    c.move_state-y.ensures c.if-s-y.false

pub returns : goal.returns
returns c = replaying-done _ _ _ _ _ _ _ _ _ _ c.loop-i.invariant (omega arith)
