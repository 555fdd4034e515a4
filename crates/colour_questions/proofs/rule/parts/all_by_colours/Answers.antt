-- A part that has no state, one part more, and after the last.
use Rattle.colour_questions.proofs.rule.PartsLoop.{going-lost, going_next, going_done}
use Rattle.colour_questions.proofs.rule.parts.all_by_colours.Goals as goal

pub returns-in_err-t : goal.returns-in_err-t
returns-in_err-t c =
    rw c.from_residual.ensures (going-lost _ _ _ _ _ _ _ _ _ _ _ _ _ _ _ _ _ _ _ _ c.loop-i.invariant
    c.loop-i-test.true _ c.part_by_colours.ensures c.in_err-t.was)

pub loop-i-preserved : goal.loop-i-preserved
loop-i-preserved c =
    going_next _ _ _ _ _ _ _ _ _ _ _ _ _ _ _ _ _ _ _ _ c.loop-i.invariant c.loop-i-test.true _
    c.part_by_colours.ensures c.in_ok-t.t.state c.in_ok-t.t.drops c.in_ok-t.t.links c.in_ok-t.was

pub returns : goal.returns
returns c = going_done _ _ _ _ _ _ _ _ _ _ _ _ _ _ _ _ _ _ _ _ c.loop-i.invariant c.loop-i-test.false
