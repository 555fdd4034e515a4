-- `headers_fit` meets its contract.
use mathlib.Core.Path.{sym, ◌∙◌}
use Rattle.formats.proofs.BufferLaws.{plan-cut, table-cut, headers-by}
use Rattle.formats.proofs.buffers.headers_fit.Goals as goal

pub returns-then-plan-lt-PLAN_HEAD : goal.returns-then-plan-lt-PLAN_HEAD
returns-then-plan-lt-PLAN_HEAD c = sym (plan-cut _ _ _ c.if-plan-lt-PLAN_HEAD.true)

pub returns-then-table-header : goal.returns-then-table-header
returns-then-table-header c = sym (table-cut _ _ _ c.if-plan-lt-PLAN_HEAD.false c.if-table-header.true)

pub returns : goal.returns
returns c =
    c.limits_fit.ensures
    ∙ headers-by _ _ _ _ _ _ c.read32-n.ensures c.read32-s.ensures c.read32-k.ensures c.if-plan-lt-PLAN_HEAD.false
    c.if-table-header.false
