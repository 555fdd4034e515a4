-- `sibling_on` meets its contract.
use Rattle.std.proofs.Common.{ap, arith, le_refl, sym, ℕ, ◌-◌, ◌∙◌}
use mathlib.Core.Option.{some}
use Rattle.tables.specs.inner.PathViews.{nodes_view}
use Rattle.tables.proofs.LookupLaws.{below-yes, below-no, sibling-left}
use Rattle.tables.proofs.LookupLaws.{sibling-outside, sibling-right, sibling-none}
use Rattle.tables.proofs.lookups.sibling_on.Goals as goal

pub returns-then-v-z : goal.returns-then-v-z
returns-then-v-z c =
    let g = c.args in
    below-no g.n g.n (le_refl _)
    ∙ sym (sibling-outside (nodes_view g.n g.node_table.now) g.v g.p c.if-v-p.true
    (omega (arith, c.if-v-z.true, c.size_at-z.ensures)))

pub returns-then-v-p : goal.returns-then-v-p
returns-then-v-p c =
    let g = c.args in
    below-yes g.n (g.v - c.size_at-z.result) (omega (arith, c.requires.at))
    ∙ ap (λ (z : ℕ). some (g.v - z)) c.size_at-z.ensures
    ∙ sym (sibling-left (nodes_view g.n g.node_table.now) g.v g.p c.if-v-p.true
    (omega (arith, c.if-v-z.false, c.size_at-z.ensures)))

pub returns-then-p-eq0 : goal.returns-then-p-eq0
returns-then-p-eq0 c =
    let g = c.args in
    below-no g.n g.n (le_refl _)
    ∙ sym (sibling-none (nodes_view g.n g.node_table.now) g.v g.p c.if-v-p.false c.if-p-eq0.true)

pub returns : goal.returns
returns c =
    let g = c.args in
    below-yes g.n (g.p - 1) (omega (arith, c.requires.up))
    ∙ sym (sibling-right (nodes_view g.n g.node_table.now) g.v g.p c.if-v-p.false
    (omega (arith, c.if-p-eq0.false)))
