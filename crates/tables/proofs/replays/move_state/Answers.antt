use Rattle.tables.proofs.ReplayLaws.{move-by-jump, move-no-label, move-by-label}
use Rattle.tables.proofs.replays.move_state.Goals as goal

pub returns-then-code-eq1 : goal.returns-then-code-eq1
returns-then-code-eq1 c =
    let g = c.args in
    move-by-jump g.s g.k g.labels.now g.steps.now g.state_table.now g.code g.q
    c.if-code-eq1.true

pub returns-then-k-a : goal.returns-then-k-a
returns-then-k-a c =
    let g = c.args in
    move-no-label g.s g.k g.labels.now g.steps.now g.state_table.now g.code g.q
    c.if-code-eq1.false c.if-k-a.true

pub returns : goal.returns
returns c =
    let g = c.args in
    move-by-label g.s g.k g.labels.now g.steps.now g.state_table.now g.code g.q
    c.if-code-eq1.false c.if-k-a.false
