-- `tables_fit` meets its contract.
use mathlib.Core.Path.{◌≡◌, sym, ◌∙◌}
use mathlib.Core.Bool.{true}
use Rattle.formats.specs.Buffers.{headers_fit}
use Rattle.formats.proofs.BufferLaws.{Headers, headers-are}
use Rattle.colour_questions.proofs.rule.AskChecks.{fit-no, lengths-no, many-states, few-states}
use native.Mathlib.Omega.{arith}
use Rattle.colour_questions.proofs.rule.checks.tables_fit.Goals as goal

pub returns-then-not-headers_fit : goal.returns-then-not-headers_fit
returns-then-not-headers_fit c =
    fit-no _ _ _ _ _ _ (sym c.headers_fit.ensures ∙ c.if-not-headers_fit.true)

pub returns-then-not-rule_buffers_fit : goal.returns-then-not-rule_buffers_fit
returns-then-not-rule_buffers_fit c =
    let fits : let g = c.args in
    headers_fit 20 g.plan.now g.rules.now ≡ true =
    (sym c.headers_fit.ensures ∙ c.if-not-headers_fit.false) in
    lengths-no _ _ _ _ _ _ fits c.read32-n.result _ _ c.read32-n.ensures c.read32-s.ensures
    c.read32-k.ensures (sym c.rule_buffers_fit.ensures ∙ c.if-not-rule_buffers_fit.true)

pub returns-then-s-gt4 : goal.returns-then-s-gt4
returns-then-s-gt4 c =
    let fits : let g = c.args in
    headers_fit 20 g.plan.now g.rules.now ≡ true =
    (sym c.headers_fit.ensures ∙ c.if-not-headers_fit.false) in
    many-states _ _ _ _ _ _ fits c.read32-n.result _ _ c.read32-n.ensures c.read32-s.ensures
    c.read32-k.ensures (sym c.rule_buffers_fit.ensures ∙ c.if-not-rule_buffers_fit.false)
    c.if-s-gt4.true

pub returns : goal.returns
returns c =
    let fits : let g = c.args in
    headers_fit 20 g.plan.now g.rules.now ≡ true =
    (sym c.headers_fit.ensures ∙ c.if-not-headers_fit.false) in
    c.set_colours_fit.ensures ∙ few-states _ _ _ _ _ _ fits c.read32-n.result _ _ c.read32-n.ensures
    c.read32-s.ensures c.read32-k.ensures (sym c.rule_buffers_fit.ensures ∙ c.if-not-rule_buffers_fit.false) c.if-s-gt4.false

pub read32-n-requires : goal.read32-n-requires
read32-n-requires c =
    let fits : let g = c.args in
    headers_fit 20 g.plan.now g.rules.now ≡ true =
    (sym c.headers_fit.ensures ∙ c.if-not-headers_fit.false) in
    let heads : let g = c.args in Headers 20 g.plan.now g.rules.now =
    (headers-are 20 _ _ fits) in
    omega (arith, heads.plan-long)

pub read32-s-requires : goal.read32-s-requires
read32-s-requires c =
    let fits : let g = c.args in
    headers_fit 20 g.plan.now g.rules.now ≡ true =
    (sym c.headers_fit.ensures ∙ c.if-not-headers_fit.false) in
    let heads : let g = c.args in Headers 20 g.plan.now g.rules.now =
    (headers-are 20 _ _ fits) in
    omega (arith, heads.table-long)

pub read32-k-requires : goal.read32-k-requires
read32-k-requires c =
    let fits : let g = c.args in
    headers_fit 20 g.plan.now g.rules.now ≡ true =
    (sym c.headers_fit.ensures ∙ c.if-not-headers_fit.false) in
    let heads : let g = c.args in Headers 20 g.plan.now g.rules.now =
    (headers-are 20 _ _ fits) in
    omega (arith, heads.table-long)

pub rule_buffers_fit-requires : goal.rule_buffers_fit-requires
rule_buffers_fit-requires c =
    let fits : let g = c.args in
    headers_fit 20 g.plan.now g.rules.now ≡ true =
    (sym c.headers_fit.ensures ∙ c.if-not-headers_fit.false) in
    let heads : let g = c.args in Headers 20 g.plan.now g.rules.now =
    (headers-are 20 _ _ fits) in
    let l = heads.in-limits in
    record {
      most = omega (arith, l.most, c.read32-n.ensures);
      few = omega (arith, l.few, c.read32-s.ensures);
      labels = omega (arith, l.labels_most, c.read32-k.ensures);
    }

pub set_colours_fit-requires : goal.set_colours_fit-requires
set_colours_fit-requires c =
    let fits : let g = c.args in
    headers_fit 20 g.plan.now g.rules.now ≡ true =
    (sym c.headers_fit.ensures ∙ c.if-not-headers_fit.false) in
    let heads : let g = c.args in Headers 20 g.plan.now g.rules.now =
    (headers-are 20 _ _ fits) in
    let g = c.args in
    record { nodes = omega (arith, heads.in-limits.most, c.read32-n.ensures); states = c.if-s-gt4.false }
