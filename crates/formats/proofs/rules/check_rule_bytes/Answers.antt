-- `check_rule_bytes` meets its contract: each return cites the law of its answer.
use Rattle.std.proofs.Common.{sym, ◌∙◌, arith}
use borrow.Author.Tests.{not-true, not-false}
use Rattle.formats.proofs.RuleAnswers.{counts-answer, shape-exact, rules-6, rules-7, rules-8, rules-9, rules-good}
use Rattle.formats.proofs.rules.check_rule_bytes.Goals as goal

pub returns-then-rules-lt-RULES_HEAD : goal.returns-then-rules-lt-RULES_HEAD
returns-then-rules-lt-RULES_HEAD c = rules-6 _ c.if-rules-lt-RULES_HEAD.true

pub returns-then-not-counts_fit : goal.returns-then-not-counts_fit
returns-then-not-counts_fit c =
    rules-7 _ (omega arith) _ _ c.read32-s.ensures c.read32-k.ensures (sym c.counts_fit.ensures ∙ not-true _ c.if-not-counts_fit.true-raw)

pub rule_shape-requires : goal.rule_shape-requires
rule_shape-requires c =
    let l = counts-answer _ _ (sym c.counts_fit.ensures ∙ not-false _ c.if-not-counts_fit.false-raw) in
    record { long = omega arith; states = l.1; labels = l.3 }

pub returns-then-not-rule_shape : goal.returns-then-not-rule_shape
returns-then-not-rule_shape c =
    rules-8 _ (omega arith) _ _ c.read32-s.ensures c.read32-k.ensures (sym c.counts_fit.ensures ∙ not-false _ c.if-not-counts_fit.false-raw)
    (sym c.rule_shape.ensures ∙ not-true _ c.if-not-rule_shape.true-raw)

pub rule_values-requires : goal.rule_values-requires
rule_values-requires c =
    let l = counts-answer _ _ (sym c.counts_fit.ensures ∙ not-false _ c.if-not-counts_fit.false-raw) in
    let exact = shape-exact _ _ _ (sym c.rule_shape.ensures ∙ not-false _ c.if-not-rule_shape.false-raw) in
    record { exact = exact; states = l.1; labels = l.3 }

pub returns-then-not-rule_values : goal.returns-then-not-rule_values
returns-then-not-rule_values c =
    rules-9 _ (omega arith) _ _ c.read32-s.ensures c.read32-k.ensures (sym c.counts_fit.ensures ∙ not-false _ c.if-not-counts_fit.false-raw)
    (sym c.rule_shape.ensures ∙ not-false _ c.if-not-rule_shape.false-raw) (sym c.rule_values.ensures ∙ not-true _ c.if-not-rule_values.true-raw)

pub returns : goal.returns
returns c =
    rules-good _ (omega arith) _ _ c.read32-s.ensures c.read32-k.ensures (sym c.counts_fit.ensures ∙ not-false _ c.if-not-counts_fit.false-raw)
    (sym c.rule_shape.ensures ∙ not-false _ c.if-not-rule_shape.false-raw) (sym c.rule_values.ensures ∙ not-false _ c.if-not-rule_values.false-raw)
