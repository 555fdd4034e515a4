-- `rule_headers_fit` meets its contract.
use native.Mathlib.Omega.{arith}
use mathlib.Core.Path.{◌≡◌, refl, sym, ◌∙◌}
use mathlib.Core.Bool.{true}
use borrow.Author.Tests.{not-true, not-false}
use Rattle.formats.specs.Buffers.{headers_fit}
use Rattle.formats.proofs.BufferLaws.{Headers, headers-are, headers-no, headed-by}
use Rattle.choices.proofs.checks.rule_headers_fit.Goals.{Else-not-headers_fit}
use Rattle.choices.proofs.checks.rule_headers_fit.Goals as goal

yes : (c : Else-not-headers_fit) → let g = c.args in
    headers_fit 20 g.plan.now g.rules.now ≡ true
yes c = sym c.headers_fit.ensures ∙ not-false _ c.if-not-headers_fit.false-raw

heads : (c : Else-not-headers_fit) → let g = c.args in
    Headers 20 g.plan.now g.rules.now
heads c = headers-are 20 _ _ (yes c)

pub returns-then-not-headers_fit : goal.returns-then-not-headers_fit
returns-then-not-headers_fit c =
    sym (headers-no _ _ _ _ _ (sym c.headers_fit.ensures ∙ not-true _ c.if-not-headers_fit.true-raw))

pub read32-n-requires : goal.read32-n-requires
read32-n-requires c = omega (arith, (heads (goal.at.read32-n-requires c).Else-not-headers_fit).plan-long)

pub read32-s-requires : goal.read32-s-requires
read32-s-requires c = omega (arith, (heads (goal.at.read32-s-requires c).Else-not-headers_fit).table-long)

pub read32-k-requires : goal.read32-k-requires
read32-k-requires c = omega (arith, (heads (goal.at.read32-k-requires c).Else-not-headers_fit).table-long)

pub rule_buffers_fit-requires : goal.rule_buffers_fit-requires
rule_buffers_fit-requires c =
    let L = (heads (goal.at.rule_buffers_fit-requires c).Else-not-headers_fit).in-limits in
    record {
      most = omega (arith, L.most, c.read32-n.ensures);
      few = omega (arith, L.few, c.read32-s.ensures);
      labels = omega (arith, L.labels_most, c.read32-k.ensures);
    }

pub returns : goal.returns
returns c =
    c.rule_buffers_fit.ensures
    ∙ headed-by _ _ _ _ _ _ _ _ _ c.read32-n.ensures c.read32-s.ensures
    c.read32-k.ensures refl (yes (goal.at.returns c).Else-not-headers_fit)
