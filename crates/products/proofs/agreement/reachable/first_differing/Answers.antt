-- A line whose marks are the same is passed, and the first whose marks differ is the answer.
use Rattle.std.proofs.Common.{arith}
use Rattle.products.proofs.agreement.reachable.MarksLoop.{marks-loop-same, marks-loop-found, marks-loop-end}
use Rattle.products.proofs.agreement.reachable.first_differing.Goals as goal

pub returns-then-first-c : goal.returns-then-first-c
returns-then-first-c c =
    marks-loop-found _ _ _ _ c.args.start c.loop-i.i c.loop-i.invariant (omega arith) c.if-first-c.true

pub loop-i-preserved : goal.loop-i-preserved
loop-i-preserved c = marks-loop-same _ _ _ _ c.args.start c.loop-i.i c.loop-i.invariant (omega arith) c.if-first-c.false

pub returns : goal.returns
returns c = marks-loop-end _ _ _ _ c.args.start c.loop-i.i c.loop-i.invariant (omega arith)
