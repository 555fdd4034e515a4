-- `check_rule_inputs` meets its contract: each return cites the law of its answer.
use Rattle.std.proofs.Common.{refl, sym, ◌∙◌, arith}
use Rattle.formats.specs.Checks.{rule_table_checks}
use Rattle.formats.specs.Rules.{label_count}
use Rattle.formats.proofs.PlanLaws.{plan-passes}
use Rattle.formats.proofs.RefusalLaws.{handed-on, handed-on-first, number-not-0}
use Rattle.formats.proofs.RuleLaws.{rules-pass, rules-numbered}
use Rattle.formats.proofs.InputAnswers.{table-rules, table-labels, table-good}
use Rattle.formats.proofs.inputs.check_rule_inputs.Goals as goal

pub returns-in_err-check_plan : goal.returns-in_err-check_plan
unfolding rule_table_checks
returns-in_err-check_plan c =
    handed-on-first _ _ _ _ c.from_residual.ensures.1 c.in_err-check_plan.ensures

pub returns-in_err-check_rule_bytes : goal.returns-in_err-check_rule_bytes
unfolding rule_table_checks
returns-in_err-check_rule_bytes c =
    let r = c.args.rules.now in
    handed-on _ _ c.from_residual-in_err-check_rule_bytes.ensures.1
    ∙ table-rules _ (label_count r) (label_count r) refl _ (rules-numbered r) (sym c.in_ok-check_plan.ensures) _
    c.in_err-check_rule_bytes.ensures (number-not-0 c.in_err-check_rule_bytes.field-0.0)

pub read32-k-requires : goal.read32-k-requires
read32-k-requires c = omega (arith, (rules-pass _ (sym c.in_ok-check_rule_bytes.ensures)).long)

pub plan_labels_below-requires : goal.plan_labels_below-requires
plan_labels_below-requires c =
    record {
      long = omega (arith, (plan-passes _ (sym c.in_ok-check_plan.ensures)).exact);
      labels = omega (arith, (rules-pass _ (sym c.in_ok-check_rule_bytes.ensures)).labels_most, c.read32-k.ensures);
    }

pub returns-then-not-plan_labels_below : goal.returns-then-not-plan_labels_below
unfolding rule_table_checks
returns-then-not-plan_labels_below c =
    let r = c.args.rules.now in
    table-labels _ c.read32-k.result (label_count r) c.read32-k.ensures _ (rules-numbered r) (sym c.in_ok-check_plan.ensures)
    (sym c.in_ok-check_rule_bytes.ensures) _ c.plan_labels_below.ensures c.if-not-plan_labels_below.true-raw

pub returns : goal.returns
unfolding rule_table_checks
returns c =
    let r = c.args.rules.now in
    table-good _ c.read32-k.result (label_count r) c.read32-k.ensures _ (rules-numbered r) (sym c.in_ok-check_plan.ensures)
    (sym c.in_ok-check_rule_bytes.ensures) _ c.plan_labels_below.ensures c.if-not-plan_labels_below.false-raw
