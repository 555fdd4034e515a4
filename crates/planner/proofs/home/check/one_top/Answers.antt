-- A plan of one node has no node before the last; otherwise its kind decides.
use Rattle.std.proofs.Common.{sym, arith}
use Rattle.planner.proofs.home.CheckLoop.{top-short, top-kind}
use Rattle.planner.proofs.home.check.one_top.Goals as goal

pub returns-then-kinds-lt2 : goal.returns-then-kinds-lt2
returns-then-kinds-lt2 c = sym (top-short _ c.if-kinds-lt2.true)

pub returns : goal.returns
returns c = top-kind c.args.kinds.now (omega arith)
