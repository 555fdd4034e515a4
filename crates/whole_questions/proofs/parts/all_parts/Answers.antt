-- One part more is asked for, by its own promise; at the end none is left.
use Rattle.std.proofs.Common.{arith}
use Rattle.whole_questions.proofs.PartsLoop.{next-links, next-passed, going_next, going-lost, going_done}
use Rattle.whole_questions.proofs.parts.all_parts.Goals as goal

pub overflow_add-links : goal.overflow_add-links
overflow_add-links c =
    let l = c.loop-i in
    omega (
      arith,
      next-links _ _ _ _ _ _ _ _ _ _ l.states l.last l.links l.passed l.i l.invariant (omega arith) c.part.result
          c.part.ensures c.in-Reached.x c.in-Reached.is,
      l.invariant.args.few,
    )

pub overflow_add-passed : goal.overflow_add-passed
overflow_add-passed c =
    let l = c.loop-i in
    omega (
      arith,
      next-passed _ _ _ _ _ _ _ _ _ _ l.states l.last l.links l.passed l.i l.invariant (omega arith) c.part.result
          c.part.ensures c.in-Reached.x c.in-Reached.is,
      l.invariant.args.few,
    )

pub returns-in-OutOfRange : goal.returns-in-OutOfRange
returns-in-OutOfRange c =
    let l = c.loop-i in
    going-lost _ _ _ _ _ _ _ _ _ _ l.states l.last l.links l.passed l.i l.invariant (omega arith) c.part.result
    c.part.ensures c.in-OutOfRange.is

pub loop-i-preserved : goal.loop-i-preserved
loop-i-preserved c =
    let l = c.loop-i in
    going_next _ _ _ _ _ _ _ _ _ _ l.states l.last l.links l.passed l.i l.invariant (omega arith) c.part.result
    c.part.ensures c.in-Reached.x c.in-Reached.is

pub returns : goal.returns
returns c =
    let l = c.loop-i in
    going_done _ _ _ _ _ _ _ _ _ _ l.states l.last l.links l.passed l.i l.invariant (omega arith)
