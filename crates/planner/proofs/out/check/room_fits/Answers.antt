-- Each test is one of check 21's.
use Rattle.std.proofs.Common.{sym, arith}
use Rattle.planner.proofs.out.CheckLoop.{room-many, room-plan, room-rest}
use Rattle.planner.proofs.out.check.room_fits.Goals as goal

pub returns-then-n-gt-FILE_LIMIT : goal.returns-then-n-gt-FILE_LIMIT
returns-then-n-gt-FILE_LIMIT c = sym (room-many _ _ _ c.if-n-gt-FILE_LIMIT.true)

pub returns-then-plan-n : goal.returns-then-plan-n
returns-then-plan-n c = sym (room-plan _ _ _ (omega arith) c.if-plan-n.true)

pub returns : goal.returns
returns c = room-rest _ _ _ (omega arith) (omega arith)
