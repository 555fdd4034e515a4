-- By each node's comparison, then by the root's parent.
use Rattle.std.proofs.Common.{arith, sym, length, ◌-◌, ◌∙◌}
use Rattle.trees.proofs.PostorderLaws.{some_node}
use Rattle.tables.proofs.node_tables.CheckLoop.{up-args, ups-step, ups-no, up-tells}
use Rattle.tables.proofs.node_tables.check.check_up.Goals as goal

pub up_matches-requires : goal.up_matches-requires
up_matches-requires c =
    up-args c.args.kinds.now c.loop-v.v c.args.node_table.now c.requires (omega arith) c.loop-v.invariant

pub returns-then-not-up_matches : goal.returns-then-not-up_matches
returns-then-not-up_matches c =
    ups-no c.args.kinds.now c.loop-v.v c.args.node_table.now (omega arith)
    (sym c.up_matches.ensures ∙ c.if-not-up_matches.true)

pub loop-v-preserved : goal.loop-v-preserved
loop-v-preserved c =
    ups-step c.args.kinds.now c.loop-v.v c.args.node_table.now (omega arith) c.loop-v.invariant
    (sym c.up_matches.ensures ∙ c.if-not-up_matches.false)

pub overflow_sub-root : goal.overflow_sub-root
overflow_sub-root c = some_node _ c.requires.postorder

pub bounds-node_table-root : goal.bounds-node_table-root
bounds-node_table-root c = omega (arith, some_node _ c.requires.postorder)

pub returns : goal.returns
returns c =
    up-tells c.args.kinds.now c.loop-v.v c.args.node_table.now (length c.args.kinds.now - 1) (omega arith)
    c.loop-v.invariant (omega (arith, some_node _ c.requires.postorder))
