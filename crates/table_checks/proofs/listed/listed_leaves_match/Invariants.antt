-- The number is 0 exactly where the leaves passed match.
use Rattle.std.proofs.Common.{◌≡◌, eqb, get_or}
use Rattle.tables.specs.inner.Compare.{every}
use Rattle.table_checks.specs.inner.PairStates.{leaf_is}
use Rattle.table_checks.proofs.listed.listed_leaves_match.Given as goal

abbrev pub invariant-loop-v : goal.invariant-loop-v
invariant-loop-v l =
    eqb l.bad 0 ≡ every l.v-index (λ x. leaf_is l.labels l.node_table l.leaves l.s l.state_table (get_or l.list x 0))
