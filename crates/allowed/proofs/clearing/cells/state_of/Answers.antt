-- `state_of` meets its contract.
use Prim.Native.Nat.{ℕ, ◌/◌}
use mathlib.Core.Path.{ap, ◌∙◌}
use lib.ListN.{get_or}
use Rattle.allowed.proofs.clearing.UpLoop.{state-of-leaf, state-of-inner}
use native.Mathlib.Omega.{arith}
use Rattle.allowed.proofs.clearing.cells.state_of.Goals as goal

pub returns-then-kinds-u-eq0 : goal.returns-then-kinds-u-eq0
returns-then-kinds-u-eq0 c =
    let g = c.args in state-of-leaf g.kinds.now g.cells.now g.u g.labels.now g.leaves.now c.if-kinds-u-eq0.true

pub overflow_sub-u : goal.overflow_sub-u
overflow_sub-u c = omega (arith, c.requires.pos c.if-kinds-u-eq0.false)

pub first_of-f-requires : goal.first_of-f-requires
first_of-f-requires c = c.requires.first c.if-kinds-u-eq0.false

pub offset_bounds-cells-f : goal.offset_bounds-cells-f
offset_bounds-cells-f c = omega (arith, c.requires.inside c.if-kinds-u-eq0.false, c.first_of-f.ensures)

pub bounds-cells-f : goal.bounds-cells-f
bounds-cells-f c = omega (arith, c.requires.inside c.if-kinds-u-eq0.false, c.first_of-f.ensures)

pub returns : goal.returns
returns c =
    let g = c.args in
    ap (λ (f : ℕ). get_or g.cells.now f 0 / 256) c.first_of-f.ensures
    ∙ state-of-inner g.kinds.now g.cells.now g.u g.labels.now g.leaves.now c.if-kinds-u-eq0.false
