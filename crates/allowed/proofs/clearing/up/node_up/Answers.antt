-- `node_up` meets its contract.
use mathlib.Core.Path.{◌∙◌}
use Rattle.allowed.proofs.clearing.UpLoop.{leaf-case, inner-case}
use Rattle.allowed.proofs.clearing.up.node_up.Goals as goal

pub returns-then-kinds-v-eq0 : goal.returns-then-kinds-v-eq0
returns-then-kinds-v-eq0 c =
    let g = c.args in
    leaf-case g.kinds.now g.labels.now g.leaves.now g.inner.now g.s g.k g.cells.now g.v c.if-kinds-v-eq0.true

pub inner_up-requires : goal.inner_up-requires
inner_up-requires c = c.requires.inner c.if-kinds-v-eq0.false

pub returns : goal.returns
returns c =
    let g = c.args in
    c.inner_up.ensures
    ∙ inner-case g.kinds.now g.labels.now g.leaves.now g.inner.now g.s g.k g.cells.now g.v c.if-kinds-v-eq0.false
