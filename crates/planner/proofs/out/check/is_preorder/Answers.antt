-- Where no node waits, or more than there are counts, these are no child counts of one tree.
use Rattle.std.proofs.Common.{sym, arith}
use Rattle.planner.proofs.out.CheckLoop.{waiting-start, waiting_none, waiting-many}
use Rattle.planner.proofs.out.check.is_preorder.Goals as goal

pub loop-i-init : goal.loop-i-init
loop-i-init c = waiting-start _

pub returns-then-wait-lt1 : goal.returns-then-wait-lt1
returns-then-wait-lt1 c = sym (waiting_none c.loop-i.invariant (omega arith) (omega arith))

pub returns-then-counts-i : goal.returns-then-counts-i
returns-then-counts-i c = sym (waiting-many c.loop-i.invariant (omega arith))
