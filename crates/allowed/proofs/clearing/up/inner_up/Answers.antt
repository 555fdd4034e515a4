-- `inner_up` meets its contract.
use Prim.Native.Nat.{ℕ, ◌-◌}
use mathlib.Core.Path.{sym, ap, subst}
use Rattle.allowed.specs.inner.clearing.Cells.{first_node_in}
use Rattle.allowed.specs.inner.clearing.Up.{PairArgs}
use Rattle.allowed.proofs.clearing.UpLoop.{up-made}
use native.Mathlib.Omega.{arith}
use Rattle.allowed.proofs.clearing.up.inner_up.Goals as goal

pub pair_cell-x-requires : goal.pair_cell-x-requires
pair_cell-x-requires c =
    let g = c.args in
    subst (λ (f : ℕ). PairArgs g.kinds.now g.labels.now g.leaves.now g.inner.now g.s g.k g.cells.now f g.v)
    (sym c.first_of-f.ensures) c.requires.pair

pub overflow_cast-cells : goal.overflow_cast-cells
overflow_cast-cells c =
    let g = c.args in
    let e = ap (λ (f : ℕ). first_node_in g.kinds.now g.cells.now (f - 1)) c.first_of-f.ensures in
    omega (arith, c.first_of-g.ensures, e, c.requires.left_low)

pub returns : goal.returns
returns c =
    let g = c.args in
    up-made g.kinds.now g.labels.now g.leaves.now g.inner.now g.s g.k g.cells.now g.v
    c.first_of-f.result c.pair_cell-x.result c.first_of-g.result c.first_of-f.ensures c.pair_cell-x.ensures c.first_of-g.ensures
