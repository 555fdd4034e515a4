-- The number is 0 exactly where the pairs passed match.
use Rattle.std.proofs.Common.{◌≡◌, eqb, get_or}
use Rattle.tables.specs.inner.Compare.{every}
use Rattle.table_checks.specs.inner.PairNodes.{pair_nodes}
use Rattle.table_checks.proofs.listed.listed_nodes_match.Given as goal

abbrev pub invariant-loop-v : goal.invariant-loop-v
invariant-loop-v l =
    eqb l.bad 0 ≡ every l.v-index (λ x. pair_nodes l.n l.node_table (get_or l.list x 0))
