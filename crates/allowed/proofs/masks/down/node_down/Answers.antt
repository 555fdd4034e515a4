-- `node_down` meets its contract.
use mathlib.Core.Path.{◌∙◌}
use Rattle.allowed.proofs.masks.DownLoop.{leaf-case, inner-case}
use Rattle.allowed.proofs.masks.down.node_down.Goals as goal

pub returns-then-kinds-v-eq0 : goal.returns-then-kinds-v-eq0
returns-then-kinds-v-eq0 c =
    let g = c.args in
    c.leaf_down.ensures
    ∙ leaf-case g.kinds.now g.labels.now g.leaves.now g.inner.now g.s g.k g.cells.now g.v c.if-kinds-v-eq0.true

pub inner_down-requires : goal.inner_down-requires
inner_down-requires c =
    c.requires.inner c.if-kinds-v-eq0.false

pub returns : goal.returns
returns c =
    let g = c.args in
    c.inner_down.ensures
    ∙ inner-case g.kinds.now g.labels.now g.leaves.now g.inner.now g.s g.k g.cells.now g.v c.if-kinds-v-eq0.false
