-- Each refusal is that of the first check that fails, and past the checks the reply is the shown lines.
use Rattle.std.proofs.Common.{◌∙◌, refl, sym, arith}
use Rattle.formats.proofs.RuleLaws.{rules-pass}
use Rattle.formats.proofs.RefusalLaws.{number-not-0}
use Rattle.products.proofs.agreement.TableAnswer.{answer-args}
use Rattle.products.proofs.agreement.PromiseLaws.{refused-done, first-no, second-no, labels-no, answered-done}
use Rattle.products.proofs.agreement.agree.Goals as goal

pub returns-in_err-check_rule_bytes : goal.returns-in_err-check_rule_bytes
returns-in_err-check_rule_bytes c =
    refused-done _ _ c.in_err-check_rule_bytes.field-0.0 _ c.from_residual.ensures.1
    (first-no _ _ _ c.in_err-check_rule_bytes.ensures (number-not-0 _))

pub returns-in_err-check_rule_bytes-2 : goal.returns-in_err-check_rule_bytes-2
returns-in_err-check_rule_bytes-2 c =
    refused-done _ _ c.in_err-check_rule_bytes-2.field-0.0 _ c.from_residual-in_err-check_rule_bytes-2.ensures.1
    (second-no _ _ (sym c.in_ok-check_rule_bytes.ensures) _ c.in_err-check_rule_bytes-2.ensures (number-not-0 _))

pub read32-k-requires : goal.read32-k-requires
read32-k-requires c = omega (arith, (rules-pass _ (sym c.in_ok-check_rule_bytes.ensures)).long)

pub read32-requires : goal.read32-requires
read32-requires c = omega (arith, (rules-pass _ (sym c.in_ok-check_rule_bytes-2.ensures)).long)

pub returns-then-read32-k : goal.returns-then-read32-k
returns-then-read32-k c =
    refused-done _ _ _ _ refl
    (labels-no _ _ (sym c.in_ok-check_rule_bytes.ensures) (sym c.in_ok-check_rule_bytes-2.ensures)
    (λ e. c.if-read32-k.true (c.read32.ensures ∙ sym e ∙ sym c.read32-k.ensures)))

pub read32-requires-2 : goal.read32-requires-2
read32-requires-2 c = omega (arith, (rules-pass _ (sym c.in_ok-check_rule_bytes.ensures)).long)

pub read32-requires-3 : goal.read32-requires-3
read32-requires-3 c = omega (arith, (rules-pass _ (sym c.in_ok-check_rule_bytes-2.ensures)).long)

pub answered-requires : goal.answered-requires
answered-requires c =
    answer-args _ _ _ _ _ (sym c.in_ok-check_rule_bytes.ensures) (sym c.in_ok-check_rule_bytes-2.ensures)
    c.read32-2.ensures c.read32-3.ensures c.read32-k.ensures (sym c.if-read32-k.false ∙ c.read32.ensures)

pub returns : goal.returns
returns c =
    answered-done _ _ (sym c.in_ok-check_rule_bytes.ensures) (sym c.in_ok-check_rule_bytes-2.ensures) _
    (sym c.read32-k.ensures ∙ sym c.if-read32-k.false ∙ c.read32.ensures) c.answered.ensures
