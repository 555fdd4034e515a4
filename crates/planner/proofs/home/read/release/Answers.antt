-- The top is written in each iteration; with the first of a list, the node above it too.
use Rattle.std.proofs.Common.{arith}
use Rattle.planner.proofs.home.ReleaseLoop.{releasing-iteration, releasing-first, releasing-end}
use Rattle.planner.proofs.home.read.release.Goals as goal

pub returns-then-label-lt64 : goal.returns-then-label-lt64
returns-then-label-lt64 c = releasing-first c.requires c.loop-top.invariant (omega arith) c.if-label-lt64.true

pub loop-top-preserved : goal.loop-top-preserved
loop-top-preserved c = releasing-iteration c.requires c.loop-top.invariant (omega arith) c.if-label-lt64.false

pub returns : goal.returns
returns c = releasing-end c.requires c.loop-top.invariant (omega arith)
