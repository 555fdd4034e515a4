-- `check_asked` meets its contract: by the first test that fails.
use Rattle.std.proofs.Common.{◌≡◌, true, sym, ◌∙◌, arith}
use Rattle.formats.proofs.BufferLaws.{Headers}
use Rattle.colour_questions.specs.rule.Question.{rule_colours_fit}
use Rattle.colour_questions.proofs.rule.AskChecks.{fits-are, no-17, no-27, then-list}
use Rattle.colour_questions.proofs.rule.checks.check_asked.Goals as goal
use Rattle.colour_questions.proofs.rule.checks.check_asked.Goals.{Else-not-tables_fit}

fits : (c : Else-not-tables_fit) → let g = c.args in
    rule_colours_fit g.plan.now g.rules.now g.node_table g.state_table g.numbers g.bytes ≡ true
fits c = sym c.tables_fit.ensures ∙ c.if-not-tables_fit.false

heads : (c : Else-not-tables_fit) → let g = c.args in Headers 20 g.plan.now g.rules.now
heads c = (fits-are _ _ _ _ _ _ (fits c)).headed.headers

pub returns-then-not-tables_fit : goal.returns-then-not-tables_fit
returns-then-not-tables_fit c = no-17 _ _ _ _ _ _ _ _ (sym c.tables_fit.ensures ∙ c.if-not-tables_fit.true)

pub read32-n-requires : goal.read32-n-requires
read32-n-requires c = omega (arith, (heads (goal.at.read32-n-requires c).Else-not-tables_fit).plan-long)

pub read32-s-requires : goal.read32-s-requires
read32-s-requires c = omega (arith, (heads (goal.at.read32-s-requires c).Else-not-tables_fit).table-long)

pub read32-k-requires : goal.read32-k-requires
read32-k-requires c = omega (arith, (heads (goal.at.read32-k-requires c).Else-not-tables_fit).table-long)

pub returns-then-s-gt4 : goal.returns-then-s-gt4
returns-then-s-gt4 c =
    no-27 _ _ _ _ _ _ _ _ (fits (goal.at.returns-then-s-gt4 c).Else-not-tables_fit) c.read32-s.result c.read32-s.ensures
    c.if-s-gt4.true

pub returns : goal.returns
returns c =
    let g = c.args in
    c.check_list.ensures
    ∙ then-list g.plan.now g.rules.now g.node_table g.state_table g.numbers g.bytes g.nodes.now
    g.labels.now (fits (goal.at.returns c).Else-not-tables_fit) c.read32-s.result
    c.read32-s.ensures c.read32-n.result c.read32-k.result c.read32-n.ensures c.read32-k.ensures c.if-s-gt4.false
