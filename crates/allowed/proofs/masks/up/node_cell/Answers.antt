-- `node_cell` meets its contract.
use mathlib.Core.Path.{◌∙◌}
use lib.ListN.{get_or}
use Rattle.allowed.proofs.masks.UpLoop.{leaf-cell, inner-cell}
use native.Mathlib.Omega.{arith}
use Rattle.allowed.proofs.masks.up.node_cell.Goals as goal

pub overflow_cast-result : goal.overflow_cast-result
overflow_cast-result c =
    omega (arith, c.requires.leaf_below (get_or c.args.labels.now c.args.v 0))

pub overflow_mul-result : goal.overflow_mul-result
overflow_mul-result c =
    omega (arith, c.requires.leaf_below (get_or c.args.labels.now c.args.v 0))

pub overflow_add-result : goal.overflow_add-result
overflow_add-result c =
    omega (arith, c.requires.leaf_below (get_or c.args.labels.now c.args.v 0))

pub returns-then-kinds-v-eq0 : goal.returns-then-kinds-v-eq0
returns-then-kinds-v-eq0 c =
    let g = c.args in
    leaf-cell g.kinds.now g.labels.now g.leaves.now g.inner.now g.s g.k g.cells.now g.v c.if-kinds-v-eq0.true

pub inner_cell-requires : goal.inner_cell-requires
inner_cell-requires c = c.requires.inner c.if-kinds-v-eq0.false

pub returns : goal.returns
returns c =
    let g = c.args in
    c.inner_cell.ensures
    ∙ inner-cell g.kinds.now g.labels.now g.leaves.now g.inner.now g.s g.k g.cells.now g.v c.if-kinds-v-eq0.false
