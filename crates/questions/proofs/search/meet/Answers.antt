-- A move leads on, or the search is stuck, or it is done.
use Rattle.std.proofs.Common.{sym, ◌∙◌}
use Rattle.questions.proofs.MeetCases.{Iterated, searching-iteration, searching-stuck, searching-done}
use Rattle.questions.proofs.search.meet.Goals as goal
use Rattle.questions.proofs.search.meet.Goals.{In-At}

iteration : (c : In-At) → let s = c.args in Iterated s.n s.node_table.now s.u s.v c.loop-x.x c.in-At.y
iteration c =
    let s = c.args in
    searching-iteration s.n s.node_table.now s.u s.v c.loop-x.x c.loop-x.invariant _
    (sym (c.loop-x-test.true) ∙ c.is_below.ensures)
    (sym c.in-At.is ∙ c.next_unless.ensures)

pub loop-x-smaller : goal.loop-x-smaller
loop-x-smaller c = (iteration (goal.at.loop-x-smaller c).In-At).rises

pub loop-x-preserved : goal.loop-x-preserved
loop-x-preserved c = (iteration (goal.at.loop-x-preserved c).In-At).searching

pub returns-in-Outside : goal.returns-in-Outside
returns-in-Outside c =
    let s = c.args in
    searching-stuck s.n s.node_table.now s.u s.v c.loop-x.x c.loop-x.invariant
    (sym (c.loop-x-test.true) ∙ c.is_below.ensures)
    (sym c.in-Outside.is ∙ c.next_unless.ensures)

pub returns : goal.returns
returns c =
    let s = c.args in
    searching-done s.n s.node_table.now s.u s.v c.loop-x.x c.loop-x.invariant
    (sym (c.loop-x-test.false) ∙ c.is_below.ensures)
