-- `node_cell` meets its contract.
use mathlib.Core.Path.{◌∙◌}
use Rattle.allowed.proofs.masks.UpLoop.{leaf-cell, inner-cell}
use Rattle.fewest.proofs.run.node_cell.Goals as goal

pub returns-then-kinds-v-eq0 : goal.returns-then-kinds-v-eq0
returns-then-kinds-v-eq0 c =
    let g = c.args in
    leaf-cell g.kinds.now g.labels.now g.leaves.now g.inner.now g.s g.k g.cells.now g.v c.if-kinds-v-eq0.true

pub returns : goal.returns
returns c =
    let g = c.args in
    c.inner_cell.ensures
    ∙ inner-cell g.kinds.now g.labels.now g.leaves.now g.inner.now g.s g.k g.cells.now g.v c.if-kinds-v-eq0.false
