-- No leaf, and one more.
use Rattle.table_checks.specs.inner.PairStates.{leaf_is}
use Rattle.table_checks.proofs.DifferenceLaws.{or-listed, every-none}
use Rattle.table_checks.proofs.listed.listed_leaves_match.Goals as goal

pub loop-v-init : goal.loop-v-init
loop-v-init c = every-none _

pub loop-v-preserved : goal.loop-v-preserved
loop-v-preserved c =
    let g = c.args in
    or-listed (leaf_is g.labels.now g.node_table.now g.leaves.now g.s g.state_table.now) _ _ _ _ _
    c.loop-v-test.true c.loop-v.invariant c.leaf_differences-leaf.ensures
