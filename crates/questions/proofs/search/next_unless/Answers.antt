-- By the way each test went.
use Rattle.std.proofs.Common.{ℕ, sym, ◌∙◌}
use Rattle.tables.specs.node_tables.Cells.{is_in_subtree_on}
use Rattle.questions.proofs.MeetCases.{jump_outside, parent-taken, jump-taken}
use Rattle.questions.proofs.search.next_unless.Goals as goal

pub returns-then-n-j : goal.returns-then-n-j
returns-then-n-j c =
    let a = c.args in
    jump_outside _ (λ (x : ℕ). is_in_subtree_on a.node_table.now x a.u) a.v c.jump_at-j.result
    c.jump_at-j.ensures c.if-n-j.true

pub returns-then-is_below : goal.returns-then-is_below
returns-then-is_below c =
    let a = c.args in
    c.if_rising.ensures ∙ parent-taken _ (λ (x : ℕ). is_in_subtree_on a.node_table.now x a.u) a.v
    c.jump_at-j.result c.jump_at-j.ensures c.if-n-j.false c.parent_at.result c.parent_at.ensures
    (sym c.is_below.ensures ∙ c.if-is_below.true)

pub returns : goal.returns
returns c =
    let a = c.args in
    c.if_rising-2.ensures ∙ jump-taken _ (λ (x : ℕ). is_in_subtree_on a.node_table.now x a.u) a.v
    c.jump_at-j.result
    c.jump_at-j.ensures c.if-n-j.false (sym c.is_below.ensures ∙ c.if-is_below.false)
