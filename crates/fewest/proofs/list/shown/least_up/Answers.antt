-- `least_up` meets its contract.
use Prim.Native.Nat.{◌+◌, ◌-◌}
use lib.ListN.{length}
use Rattle.list_laws.proofs.RowLaws.{stride}
use Rattle.trees.proofs.PostorderLaws.{some_node}
use native.Mathlib.Omega.{arith}
use Rattle.fewest.proofs.list.shown.least_up.Goals as goal

pub overflow_sub-kinds : goal.overflow_sub-kinds
overflow_sub-kinds c =
    let g = c.args in
    let p = c.requires.up in
    let n = length g.kinds.now in
    let z = some_node g.kinds.now p.runs.postorder in
    omega (arith, z)

pub root_least-requires : goal.root_least-requires
root_least-requires c =
    let g = c.args in
    let p = c.requires.up in
    let n = length g.kinds.now in
    let z = some_node g.kinds.now p.runs.postorder in
    record { few = p.runs.few; room = omega (arith, stride (g.s + 1) (length g.kinds.now - 1) (length g.kinds.now) (omega (arith, z)), p.room); marks = c.requires.marks }
