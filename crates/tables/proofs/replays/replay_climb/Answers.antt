-- By the part that is remembered: a whole climb is replayed, a longer one is made in parts.
use Rattle.std.proofs.Common.{arith, ap₂, ℕ, ◌-◌, ◌∙◌}
use borrow.Author.Tests.{not-true, not-false}
use Rattle.tables.proofs.RememberLoop.{replay-none, replay-lost, replay-done, part-whole, part_none, part-passed, part-links}
use Rattle.tables.proofs.replays.replay_climb.Goals as goal

pub returns-then-not-x : goal.returns-then-not-x
returns-then-not-x c =
    let g = c.args in
    let x = c.remember_moves-x in
    replay-none g.n g.s g.k g.labels.now g.steps.now g.node_table.now g.state_table.now g.from g.to g.q
    (part_none g.n g.s g.k g.labels.now g.steps.now g.node_table.now g.state_table.now g.from g.to _ x.result g.from
    x.ensures (not-true _ c.if-not-x.true))

pub returns-then-s-y : goal.returns-then-s-y
returns-then-s-y c =
    let g = c.args in
    let x = c.remember_moves-x in
    replay-lost g.n g.s g.k g.labels.now g.steps.now g.node_table.now g.state_table.now g.from g.to _ g.q
    c.replay-y.result
    (part-whole g.n g.s g.k g.labels.now g.steps.now g.node_table.now g.state_table.now g.from g.to _ x.result x.ensures
    (not-false _ c.if-not-x.false) (omega arith)) c.replay-y.ensures c.if-s-y.true

pub returns : goal.returns
returns c =
    let g = c.args in
    let x = c.remember_moves-x in
    replay-done g.n g.s g.k g.labels.now g.steps.now g.node_table.now g.state_table.now g.from g.to _ g.q
    c.replay-y.result
    (part-whole g.n g.s g.k g.labels.now g.steps.now g.node_table.now g.state_table.now g.from g.to _ x.result x.ensures
    (not-false _ c.if-not-x.false) (omega arith)) c.replay-y.ensures c.if-s-y.false _ _
    (part-links g.n g.s g.k g.labels.now g.steps.now g.node_table.now g.state_table.now g.from g.to _ x.result.count)
    (ap₂ (λ (x y : ℕ). x - y) c.depth_at-2.ensures c.depth_at-3.ensures
    ∙ part-passed g.n g.s g.k g.labels.now g.steps.now g.node_table.now g.state_table.now g.from g.to _ x.result
    x.ensures)
