-- `siblings::pair_node_differences` meets its contract.
use native.Mathlib.Omega.{arith}
use Prim.Native.Nat.{◌+◌, ◌*◌}
use Rattle.table_checks.proofs.PackedLaws.{pair-jump-less, pair-packed}
use Rattle.table_checks.proofs.siblings.pair_node_differences.Goals as goal

pub overflow_add-want-2 : goal.overflow_add-want-2
overflow_add-want-2 c =
    let g = c.args in
    let k = c.type_inv.node_table in
    let h = pair-jump-less g.n g.node_table.now g.v (λ i. omega (arith, k i))
    (omega (arith, c.requires.0.inside, c.requires.0.most)) in
    omega (arith, k (g.v * 4 + 2), h, c.pair_jump-to.ensures, c.requires.0.inside, c.requires.0.most)

pub returns : goal.returns
returns c =
    let l = c.left_in-left in
    let j = c.pair_jump-to in
    let x = c.numbers_of-a in
    let y = c.numbers_of-b in
    pair-packed _ _ _ (λ i. omega (arith, c.type_inv.node_table i))
    (omega (arith, c.requires.0.inside, c.requires.0.most)) l.result j.result x.result y.result l.ensures
    j.ensures x.ensures y.ensures
