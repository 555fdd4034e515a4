-- The entries passed are joined.
use Rattle.table_checks.specs.inner.Joins.{Joined}
use Rattle.table_checks.proofs.differences.join_maps.Given as goal

abbrev pub invariant-loop-q : goal.invariant-loop-q
invariant-loop-q l = Joined l.s l.state_table l.p l.j l.q l.joined
