-- `check_rule_colours` meets its contract: each return cites the law of its answer.
use mathlib.Core.Path.{sym, ◌∙◌}
use native.Mathlib.Omega.{arith}
use Rattle.formats.proofs.PlanLaws.{plan-passes}
use Rattle.formats.proofs.RefusalLaws.{number-not-0, handed-on}
use Rattle.formats.proofs.RuleLaws.{rules-pass}
use Rattle.colour_tables.proofs.rule.CheckAnswers.{plan-refused, rules-refused, states-refused, labels-refused}
use Rattle.colour_tables.proofs.rule.CheckAnswers.{room-refused, all_pass}
use Rattle.colour_tables.proofs.rule.build.check_rule_colours.Goals as goal

pub returns-in_err-check_plan : goal.returns-in_err-check_plan
returns-in_err-check_plan c =
    let r = c.in_err-check_plan in
    handed-on _ _ c.from_residual.ensures.1 ∙ plan-refused _ _ _ _ _ r.ensures (number-not-0 r.field-0.0)

pub returns-in_err-check_rule_bytes : goal.returns-in_err-check_rule_bytes
returns-in_err-check_rule_bytes c =
    let r = c.in_err-check_rule_bytes in
    handed-on _ _ c.from_residual-in_err-check_rule_bytes.ensures.1
    ∙ rules-refused _ _ _ _ (sym c.in_ok-check_plan.ensures) _ r.ensures (number-not-0 r.field-0.0)

pub read32-n-requires : goal.read32-n-requires
read32-n-requires c = omega (arith, (plan-passes _ (sym c.in_ok-check_plan.ensures)).long)

pub read32-s-requires : goal.read32-s-requires
read32-s-requires c = omega (arith, (rules-pass _ (sym c.in_ok-check_rule_bytes.ensures)).long)

pub read32-k-requires : goal.read32-k-requires
read32-k-requires c = omega (arith, (rules-pass _ (sym c.in_ok-check_rule_bytes.ensures)).long)

pub returns-then-s-gt4 : goal.returns-then-s-gt4
returns-then-s-gt4 c =
    states-refused _ _ _ _ (sym c.in_ok-check_plan.ensures) (sym c.in_ok-check_rule_bytes.ensures) _ _ _ c.read32-n.ensures
    c.read32-s.ensures c.read32-k.ensures c.if-s-gt4.true

pub slice_bounds-all_below-end : goal.slice_bounds-all_below-end
slice_bounds-all_below-end c = omega (arith, (plan-passes _ (sym c.in_ok-check_plan.ensures)).exact, c.read32-n.ensures)

pub overflow_cast-k : goal.overflow_cast-k
overflow_cast-k c = omega (arith, (rules-pass _ (sym c.in_ok-check_rule_bytes.ensures)).labels_most, c.read32-k.ensures)

pub returns-then-not-all_below : goal.returns-then-not-all_below
returns-then-not-all_below c =
    labels-refused _ _ _ _ (sym c.in_ok-check_plan.ensures) (sym c.in_ok-check_rule_bytes.ensures) _ _ _ c.read32-n.ensures
    c.read32-s.ensures c.read32-k.ensures (omega (arith, c.if-s-gt4.false)) _
    c.all_below.ensures c.if-not-all_below.true

pub set_colours_fit-requires : goal.set_colours_fit-requires
set_colours_fit-requires c = record {
  nodes = omega (arith, (plan-passes _ (sym c.in_ok-check_plan.ensures)).most, c.read32-n.ensures);
  states = omega (arith, c.if-s-gt4.false);
}

pub returns-then-not-set_colours_fit : goal.returns-then-not-set_colours_fit
returns-then-not-set_colours_fit c =
    room-refused _ _ _ _ (sym c.in_ok-check_plan.ensures) (sym c.in_ok-check_rule_bytes.ensures) _ _ _ c.read32-n.ensures
    c.read32-s.ensures c.read32-k.ensures (omega (arith, c.if-s-gt4.false)) _
    c.all_below.ensures c.if-not-all_below.false _ c.set_colours_fit.ensures c.if-not-set_colours_fit.true

pub returns : goal.returns
returns c =
    all_pass _ _ _ _ (sym c.in_ok-check_plan.ensures) (sym c.in_ok-check_rule_bytes.ensures) _ _ _ c.read32-n.ensures
    c.read32-s.ensures c.read32-k.ensures (omega (arith, c.if-s-gt4.false)) _
    c.all_below.ensures c.if-not-all_below.false _ c.set_colours_fit.ensures c.if-not-set_colours_fit.false
