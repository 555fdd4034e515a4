-- One node more, listed in both lists.
use Rattle.std.proofs.Common.{arith}
use Rattle.table_checks.proofs.BlockLaws.{both-step}
use Rattle.table_checks.proofs.blocks.list_block.Goals as goal

pub loop-v-preserved : goal.loop-v-preserved
loop-v-preserved c =
    let l = c.loop-v in
    both-step c.args.kinds.now c.args.b l.v l.c l.list l.leaf_list l.invariant (omega arith)
    (c.requires.kinds.small l.v (omega arith)) (omega arith) (omega arith)
