-- No pair, and one more.
use Rattle.table_checks.specs.inner.PairNodes.{pair_nodes}
use Rattle.table_checks.proofs.DifferenceLaws.{or-listed, every-none}
use Rattle.table_checks.proofs.listed.listed_nodes_match.Goals as goal

pub loop-v-init : goal.loop-v-init
loop-v-init c = every-none _

pub loop-v-preserved : goal.loop-v-preserved
loop-v-preserved c =
    let g = c.args in
    or-listed (pair_nodes g.n g.node_table.now) _ _ _ _ _
    c.loop-v-test.true c.loop-v.invariant c.pair_node_differences-nodes.ensures
