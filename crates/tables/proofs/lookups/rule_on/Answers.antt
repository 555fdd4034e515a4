-- `rule_on` meets its contract.
use Rattle.std.proofs.Common.{le_refl, sym, ◌∙◌}
use Rattle.tables.specs.inner.PathViews.{rules_view}
use Rattle.tables.proofs.LookupLaws.{below-no, rule-outside, rule-at}
use Rattle.tables.proofs.lookups.rule_on.Goals as goal

pub returns-then-k-a : goal.returns-then-k-a
returns-then-k-a c =
    let g = c.args in
    below-no g.s g.s (le_refl _)
    ∙ sym (rule-outside (rules_view g.s g.k g.inner.now) g.p g.a g.q c.if-k-a.true)

pub returns : goal.returns
returns c =
    let g = c.args in
    sym (rule-at (rules_view g.s g.k g.inner.now) g.p g.a g.q c.if-k-a.false)
