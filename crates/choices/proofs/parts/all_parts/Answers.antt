-- One part more; where one is lost, all are.
use borrow.Author.Tests.{not-true, not-false}
use Rattle.choices.proofs.AllLoop.{going-lost, going_next, going_done}
use Rattle.choices.proofs.parts.all_parts.Goals as goal

pub returns-then-not-x : goal.returns-then-not-x
returns-then-not-x c =
    going-lost _ _ _ _ _ _ _ _ _ _ _ _ _ _ _ c.loop-i.invariant c.loop-i-test.true _ _
    c.next_part-x.ensures (not-true c.next_part-x.result.ok c.if-not-x.true)

pub loop-i-preserved : goal.loop-i-preserved
loop-i-preserved c =
    going_next _ _ _ _ _ _ _ _ _ _ _ _ _ _ _ c.loop-i.invariant c.loop-i-test.true _ _ c.next_part-x.ensures
    (not-false c.next_part-x.result.ok c.if-not-x.false)

pub returns : goal.returns
returns c = going_done _ _ _ _ _ _ _ _ _ _ _ _ _ _ _ c.loop-i.invariant c.loop-i-test.false
