-- Label and count are written above the stack.
use Rattle.planner.proofs.home.CellLaws.{push-done}
use Rattle.planner.proofs.home.read.push.Goals as goal

pub returns : goal.returns
returns c = rw c.mark.ensures (push-done _ _ _ _ _ c.requires c.args.w.run)
