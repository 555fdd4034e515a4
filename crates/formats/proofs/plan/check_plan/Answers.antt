-- `formats::plan::check_plan` meets its contract: each return cites the law of its answer.
use mathlib.Core.Path.{sym, ap, ◌∙◌}
use native.Mathlib.Omega.{arith}
use borrow.Author.Tests.{not-true, not-false}
use Rattle.trees.specs.Postorder.{is_postorder}
use Rattle.formats.proofs.PlanLaws.{kinds-part-exact}
use Rattle.formats.proofs.PlanAnswers.{plan-2, plan-none, plan-many, plan-labels-off, plan-kinds-off, plan-inexact, plan-5, plan-good}
use Rattle.formats.proofs.plan.check_plan.Goals as goal

pub returns-then-plan-lt-PLAN_HEAD : goal.returns-then-plan-lt-PLAN_HEAD
returns-then-plan-lt-PLAN_HEAD c = plan-2 _ c.if-plan-lt-PLAN_HEAD.true

pub returns-then-n-lt1 : goal.returns-then-n-lt1
returns-then-n-lt1 c = plan-none _ (omega arith) (omega arith)

pub returns-then-n-gt-NODE_LIMIT : goal.returns-then-n-gt-NODE_LIMIT
returns-then-n-gt-NODE_LIMIT c = plan-many _ (omega arith) (omega arith)

pub returns-then-read32-ne-PLAN_HEAD : goal.returns-then-read32-ne-PLAN_HEAD
returns-then-read32-ne-PLAN_HEAD c = plan-labels-off _ (omega arith) (omega arith) (omega arith) (λ e. c.if-read32-ne-PLAN_HEAD.true (omega arith))

pub returns-then-read32-n : goal.returns-then-read32-n
returns-then-read32-n c = plan-kinds-off _ (omega arith) (omega arith) (omega arith) (λ e. c.if-read32-n.true (omega arith))

pub returns-then-plan-n : goal.returns-then-plan-n
returns-then-plan-n c = plan-inexact _ (omega arith) (omega arith) (omega arith) (λ e. c.if-plan-n.true (omega arith))

pub returns-then-not-is_postorder : goal.returns-then-not-is_postorder
returns-then-not-is_postorder c = plan-5 _ (omega arith) (omega arith) (omega arith) (omega arith) (omega arith) (omega arith)
    (sym (c.is_postorder.ensures ∙ ap is_postorder (kinds-part-exact c.args.plan.now _ (omega arith) (omega arith))) ∙ not-true _ c.if-not-is_postorder.true-raw)

pub returns : goal.returns
returns c = plan-good _ (omega arith) (omega arith) (omega arith) (omega arith) (omega arith) (omega arith)
    (sym (c.is_postorder.ensures ∙ ap is_postorder (kinds-part-exact c.args.plan.now _ (omega arith) (omega arith))) ∙ not-false _ c.if-not-is_postorder.false-raw)
