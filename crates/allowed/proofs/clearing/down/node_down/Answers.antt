-- `node_down` meets its contract.
use mathlib.Core.Path.{◌∙◌}
use Rattle.allowed.proofs.clearing.DownLoop.{leaf-case, leaf-set, inner-case, inner-set}
use Rattle.allowed.proofs.clearing.down.node_down.Goals as goal

pub returns-then-kinds-v-eq0 : goal.returns-then-kinds-v-eq0
returns-then-kinds-v-eq0 c =
    let g = c.args in (
      c.leaf_down.ensures.0 ∙ leaf-case g.kinds.now g.labels.now g.inner.now g.s g.k g.cells.now g.v g.c c.if-kinds-v-eq0.true,
      c.leaf_down.ensures.1 ∙ leaf-set g.kinds.now g.labels.now g.inner.now g.s g.k g.cells.now g.v g.c c.if-kinds-v-eq0.true,
    )

pub inner_down-requires : goal.inner_down-requires
inner_down-requires c = c.requires.inner c.if-kinds-v-eq0.false

pub returns : goal.returns
returns c =
    let g = c.args in (
      c.inner_down.ensures.0 ∙ inner-case g.kinds.now g.labels.now g.inner.now g.s g.k g.cells.now g.v g.c c.if-kinds-v-eq0.false,
      c.inner_down.ensures.1 ∙ inner-set g.kinds.now g.labels.now g.inner.now g.s g.k g.cells.now g.v g.c c.if-kinds-v-eq0.false,
    )
