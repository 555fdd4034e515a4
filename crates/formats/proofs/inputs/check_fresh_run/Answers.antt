-- `check_fresh_run` meets its contract: each return cites the law of its answer.
use Rattle.std.proofs.Common.{ℕ, sym, ap₂, ◌∙◌, arith}
use Rattle.formats.specs.Checks.{first_no, list_checks, fresh_run_checks}
use Rattle.formats.proofs.RefusalLaws.{handed-on-first}
use Rattle.formats.proofs.InputLaws.{rule-table-passes, rule-table-numbered}
use Rattle.formats.proofs.InputAnswers.{last-part}
use Rattle.formats.proofs.inputs.check_fresh_run.Goals as goal

pub returns-in_err-check_rule_inputs : goal.returns-in_err-check_rule_inputs
unfolding fresh_run_checks
returns-in_err-check_rule_inputs c = handed-on-first _ _ _ _ c.from_residual.ensures.1 c.in_err-check_rule_inputs.ensures

pub read32-n-requires : goal.read32-n-requires
read32-n-requires c = omega (arith, (rule-table-passes _ _ (sym c.in_ok-check_rule_inputs.ensures)).0.long)

pub read32-k-requires : goal.read32-k-requires
read32-k-requires c = omega (arith, (rule-table-passes _ _ (sym c.in_ok-check_rule_inputs.ensures)).1.long)

pub returns : goal.returns
unfolding fresh_run_checks
returns c =
    let a = c.args in
    last-part _ _ (rule-table-numbered a.plan.now a.rules.now) (sym c.in_ok-check_rule_inputs.ensures) _
    (c.check_list.ensures
    ∙ ap₂ (λ (n k : ℕ). first_no (list_checks n k a.nodes.now a.labels.now)) c.read32-n.ensures c.read32-k.ensures)
