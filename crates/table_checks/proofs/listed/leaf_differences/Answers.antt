-- `listed::leaf_differences` meets its contract.
use Prim.Native.Nat.{◌+◌, ◌*◌}
use mathlib.Core.Path.{ap₂, ◌∙◌}
use mathlib.Core.Bool.{Bool, ◌&&◌}
use native.Mathlib.Omega.{arith}
use lib.ListN.{get_or}
use lib.Bits.{bit_xor}
use Rattle.table_checks.specs.inner.PairStates.{leaf_is}
use Rattle.table_checks.proofs.DifferenceLaws.{or-test, xor-test}
use Rattle.table_checks.proofs.PairStateLaws.{row_room, row_small}
use Rattle.table_checks.proofs.listed.leaf_differences.Goals as goal

pub overflow_mul-state : goal.overflow_mul-state
overflow_mul-state c =
    let g = c.args in
    omega (
      arith,
      row_small g.labels.now g.node_table.now g.leaves.now g.inner.now g.s g.k g.n
          g.state_table.now c.requires.table g.v c.requires.inside,
    )

pub bounds-state_table-v : goal.bounds-state_table-v
bounds-state_table-v c =
    let g = c.args in
    omega (
      arith,
      row_room g.labels.now g.node_table.now g.leaves.now g.inner.now g.s g.k g.n
          g.state_table.now c.requires.table g.v c.requires.inside,
    )

pub returns : goal.returns
unfolding leaf_is
returns c =
    let g = c.args in
    let x = get_or g.node_table.now (g.v * 4 + 3) 0 in
    let p = get_or g.state_table.now (g.v * (g.s + 1)) 0 in
    let q = get_or g.leaves.now (get_or g.labels.now g.v 0) 0 in
    or-test (bit_xor x 1) (bit_xor p q) ∙ ap₂ (λ (y z : Bool). y && z) (xor-test x 1) (xor-test p q)
