-- `check_fewest` meets its contract: each return cites the law of its answer.
use Prim.Native.Nat.{ℕ}
use mathlib.Core.Path.{sym, ap, ap₂, ◌∙◌}
use borrow.Author.Tests.{not-true, not-false}
use Rattle.formats.proofs.InputLaws.{rule-table-passes}
use Rattle.formats.proofs.RefusalLaws.{handed-on-first}
use Rattle.fewest.specs.Answers.{may_fits, fewest_room, fewest_checks}
use Rattle.fewest.proofs.call.CallLaws.{no-sets, no_room, all_yes}
use native.Mathlib.Omega.{arith}
use Rattle.fewest.proofs.call.check_fewest.Goals as goal

pub returns-in_err-check_rule_inputs : goal.returns-in_err-check_rule_inputs
unfolding fewest_checks
returns-in_err-check_rule_inputs c = handed-on-first _ _ _ _ c.from_residual.ensures.1 c.in_err-check_rule_inputs.ensures

pub read32-n-requires : goal.read32-n-requires
read32-n-requires c =
    let g = c.args in
    omega (arith, (rule-table-passes g.plan.now g.rules.now (sym c.in_ok-check_rule_inputs.ensures)).0.long)

pub read32-s-requires : goal.read32-s-requires
read32-s-requires c =
    let g = c.args in
    omega (arith, (rule-table-passes g.plan.now g.rules.now (sym c.in_ok-check_rule_inputs.ensures)).1.long)

pub returns-then-not-may_fits : goal.returns-then-not-may_fits
returns-then-not-may_fits c =
    let g = c.args in
    no-sets g.plan.now g.rules.now g.may g.work g.nodes g.labels (sym c.in_ok-check_rule_inputs.ensures) (ap (may_fits g.may) (sym c.read32-n.ensures) ∙ sym c.may_fits.ensures ∙ not-true c.may_fits.result c.if-not-may_fits.true-raw)

pub room_fits-requires : goal.room_fits-requires
room_fits-requires c =
    let g = c.args in
    let f = rule-table-passes g.plan.now g.rules.now (sym c.in_ok-check_rule_inputs.ensures) in
    record { nodes = omega (arith, f.0.most, c.read32-n.ensures); states = omega (arith, f.1.states_most, c.read32-s.ensures) }

pub returns-then-not-room_fits : goal.returns-then-not-room_fits
returns-then-not-room_fits c =
    let g = c.args in
    no_room g.plan.now g.rules.now g.may g.work g.nodes g.labels (sym c.in_ok-check_rule_inputs.ensures) (ap (may_fits g.may) (sym c.read32-n.ensures) ∙ sym c.may_fits.ensures ∙ not-false c.may_fits.result c.if-not-may_fits.false-raw)
    (ap₂ (λ (n s : ℕ). fewest_room n s g.work g.nodes g.labels) (sym c.read32-n.ensures) (sym c.read32-s.ensures) ∙ sym c.room_fits.ensures ∙ not-true c.room_fits.result c.if-not-room_fits.true-raw)

pub returns : goal.returns
returns c =
    let g = c.args in
    all_yes g.plan.now g.rules.now g.may g.work g.nodes g.labels (sym c.in_ok-check_rule_inputs.ensures) (ap (may_fits g.may) (sym c.read32-n.ensures) ∙ sym c.may_fits.ensures ∙ not-false c.may_fits.result c.if-not-may_fits.false-raw)
    (ap₂ (λ (n s : ℕ). fewest_room n s g.work g.nodes g.labels) (sym c.read32-n.ensures) (sym c.read32-s.ensures) ∙ sym c.room_fits.ensures ∙ not-false c.room_fits.result c.if-not-room_fits.false-raw)
