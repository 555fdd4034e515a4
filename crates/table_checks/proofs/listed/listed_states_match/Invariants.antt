-- The number is 0 exactly where the pairs passed match.
use Rattle.std.proofs.Common.{◌≡◌, eqb, get_or}
use Rattle.tables.specs.inner.Compare.{every}
use Rattle.table_checks.specs.inner.PairStates.{pair_states}
use Rattle.table_checks.proofs.listed.listed_states_match.Given as goal

abbrev pub invariant-loop-v : goal.invariant-loop-v
invariant-loop-v g l =
    eqb l.bad 0 ≡ every l.v-index (λ x. pair_states l.labels l.node_table l.inner l.s l.k l.n l.state_table (get_or l.list x 0))
