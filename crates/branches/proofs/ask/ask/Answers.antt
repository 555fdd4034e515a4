-- `ask::ask` meets its contract: a refusal where a check fails, else the answer.
use mathlib.Core.Path.{sym, ◌∙◌}
use native.Mathlib.Omega.{arith}
use Rattle.formats.proofs.BufferLaws.{headed-are}
use Rattle.branches.proofs.AskChecks.{ask-17, ask-13-upper, ask-13-lower, ask-16, ask-on}
use Rattle.branches.proofs.AskTheorem.{ask-done}
use Rattle.branches.proofs.ask.ask.Goals as goal

pub returns-then-not-branch_buffers_fit : goal.returns-then-not-branch_buffers_fit
returns-then-not-branch_buffers_fit c = ask-done _ _ _ _ _ _ _ _
    (ask-17 _ _ _ _ _ _ _ (sym c.branch_buffers_fit.ensures ∙ c.if-not-branch_buffers_fit.true))

pub read32-n-requires : goal.read32-n-requires
read32-n-requires c = omega (arith, (headed-are _ _ _ _ _ (sym c.branch_buffers_fit.ensures ∙ c.if-not-branch_buffers_fit.false)).headers.plan-long)

pub returns-then-n-u : goal.returns-then-n-u
returns-then-n-u c = ask-done _ _ _ _ _ _ _ _
    (ask-13-upper _ _ _ _ _ _ _ (sym c.branch_buffers_fit.ensures ∙ c.if-not-branch_buffers_fit.false) (omega (arith, c.if-n-u.true, c.read32-n.ensures)))

pub returns-then-n-l : goal.returns-then-n-l
returns-then-n-l c =
    ask-done _ _ _ _ _ _ _ _
    (ask-13-lower _ _ _ _ _ _ _ (sym c.branch_buffers_fit.ensures ∙ c.if-not-branch_buffers_fit.false)
    (omega (arith, c.if-n-l.true, c.read32-n.ensures)))

pub is_below-requires : goal.is_below-requires
is_below-requires c =
    omega (
      arith,
      c.if-n-u.false,
      c.read32-n.ensures,
      (headed-are _ _ _ _ _ (sym c.branch_buffers_fit.ensures ∙ c.if-not-branch_buffers_fit.false)).node_table_room,
    )

pub returns-then-not-is_below : goal.returns-then-not-is_below
returns-then-not-is_below c =
    ask-done _ _ _ _ _ _ _ _
    (ask-16 _ _ _ _ _ _ _ (sym c.branch_buffers_fit.ensures ∙ c.if-not-branch_buffers_fit.false) (omega (arith, c.if-n-u.false, c.read32-n.ensures)) (omega (arith, c.if-n-l.false, c.read32-n.ensures))
    (sym c.is_below.ensures ∙ c.if-not-is_below.true))

pub answer_branch-requires : goal.answer_branch-requires
answer_branch-requires c =
    record { fits = sym c.branch_buffers_fit.ensures ∙ c.if-not-branch_buffers_fit.false; upper = omega (arith, c.if-n-u.false, c.read32-n.ensures); lower = omega (arith, c.if-n-l.false, c.read32-n.ensures) }

pub returns : goal.returns
returns c =
    ask-done _ _ _ _ _ _ _ c.answer_branch.result
    (c.answer_branch.ensures
    ∙ sym (ask-on _ _ _ _ _ _ _ (sym c.branch_buffers_fit.ensures ∙ c.if-not-branch_buffers_fit.false) (omega (arith, c.if-n-u.false, c.read32-n.ensures)) (omega (arith, c.if-n-l.false, c.read32-n.ensures))
    (sym c.is_below.ensures ∙ c.if-not-is_below.false)))
