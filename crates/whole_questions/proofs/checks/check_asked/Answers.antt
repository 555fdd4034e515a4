-- By the first test that fails.
use Rattle.std.proofs.Common.{◌≡◌, true, sym, ◌∙◌, arith}
use Rattle.formats.specs.Buffers.{headers_fit}
use Rattle.formats.proofs.BufferLaws.{Headers, headers-are}
use Rattle.whole_questions.proofs.AskChecks.{no-17, no-17-lengths, then-list}
use Rattle.whole_questions.proofs.checks.check_asked.Goals as goal
use Rattle.whole_questions.proofs.checks.check_asked.Goals.{Else-not-headers_fit}

yes : (c : Else-not-headers_fit) → let g = c.args in headers_fit 20 g.plan.now g.rules.now ≡ true
yes c = sym c.headers_fit.ensures ∙ c.if-not-headers_fit.false

heads : (c : Else-not-headers_fit) → let g = c.args in Headers 20 g.plan.now g.rules.now
heads c = headers-are 20 _ _ (yes c)

pub returns-then-not-headers_fit : goal.returns-then-not-headers_fit
returns-then-not-headers_fit c = no-17 _ _ _ _ _ _ (sym c.headers_fit.ensures ∙ c.if-not-headers_fit.true)

pub read32-n-requires : goal.read32-n-requires
read32-n-requires c = omega (arith, (heads (goal.at.read32-n-requires c).Else-not-headers_fit).plan-long)

pub read32-s-requires : goal.read32-s-requires
read32-s-requires c = omega (arith, (heads (goal.at.read32-s-requires c).Else-not-headers_fit).table-long)

pub read32-k-requires : goal.read32-k-requires
read32-k-requires c = omega (arith, (heads (goal.at.read32-k-requires c).Else-not-headers_fit).table-long)

pub rule_buffers_fit-requires : goal.rule_buffers_fit-requires
rule_buffers_fit-requires c =
    let l = (heads (goal.at.rule_buffers_fit-requires c).Else-not-headers_fit).in-limits in
    record {
      most = omega (arith, l.most, c.read32-n.ensures);
      few = omega (arith, l.few, c.read32-s.ensures);
      labels = omega (arith, l.labels_most, c.read32-k.ensures);
    }

pub returns-then-not-rule_buffers_fit : goal.returns-then-not-rule_buffers_fit
returns-then-not-rule_buffers_fit c =
    let g = c.args in
    no-17-lengths g.plan.now g.rules.now g.node_table g.state_table g.nodes.now g.labels.now
    (yes (goal.at.returns-then-not-rule_buffers_fit c).Else-not-headers_fit) c.read32-n.result c.read32-s.result
    c.read32-k.result c.read32-n.ensures c.read32-s.ensures c.read32-k.ensures
    (sym c.rule_buffers_fit.ensures ∙ c.if-not-rule_buffers_fit.true)

pub returns : goal.returns
returns c =
    let g = c.args in
    c.check_list.ensures
    ∙ then-list g.plan.now g.rules.now g.node_table g.state_table g.nodes.now g.labels.now
    (yes (goal.at.returns c).Else-not-headers_fit) c.read32-n.result c.read32-s.result c.read32-k.result
    c.read32-n.ensures c.read32-s.ensures c.read32-k.ensures
    (sym c.rule_buffers_fit.ensures ∙ c.if-not-rule_buffers_fit.false)
