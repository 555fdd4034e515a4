-- The four bytes of an entry are written above the stack.
use Rattle.std.proofs.Common.{◌/◌, ◌%◌, arith}
use Rattle.planner.proofs.out.StackLaws.{stack-pushed}
use Rattle.planner.proofs.out.places.push.Goals as goal

pub returns : goal.returns
returns c =
    let a = c.args in
    stack-pushed a.plan.now a.depth (a.v % 256) (a.v / 256) a.after a.first c.requires.room a.v (omega arith)
