-- One node more is written at each iteration, and the root's parent after the last.
use Rattle.std.proofs.Common.{arith, refl, length}
use Rattle.trees.proofs.PostorderLaws.{some_node}
use Rattle.tables.proofs.node_tables.UpLoop.{turns, turn-room, all-written}
use Rattle.tables.proofs.node_tables.up.write_up.Goals as goal

pub write_up_node-requires : goal.write_up_node-requires
write_up_node-requires c =
    let g = c.args in
    turn-room g.kinds.now c.loop-v.v (length g.node_table.now) g.node_table.now c.loop-v.node_table c.requires
    (omega arith) (omega arith) c.loop-v.invariant

pub loop-v-preserved : goal.loop-v-preserved
loop-v-preserved c =
    rw c.write_up_node.ensures
    (turns c.args.kinds.now c.loop-v.v c.args.node_table.now c.loop-v.node_table c.loop-v.invariant (omega arith)
    (omega arith) _ refl)

pub overflow_sub-root : goal.overflow_sub-root
overflow_sub-root c = some_node _ c.requires.postorder

pub bounds-node_table-root : goal.bounds-node_table-root
bounds-node_table-root c = omega (arith, some_node _ c.requires.postorder)

pub returns : goal.returns
returns c =
    all-written c.args.kinds.now c.loop-v.v c.args.node_table.now c.loop-v.node_table c.loop-v.invariant (omega arith)
    (omega arith) (omega arith)
