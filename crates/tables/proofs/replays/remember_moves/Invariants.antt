-- The first moves are remembered, and lead to v.
use Rattle.tables.proofs.RememberLoop.{Noting}
use Rattle.tables.proofs.replays.remember_moves.Given as goal

abbrev pub invariant-loop-count : goal.invariant-loop-count
invariant-loop-count l = Noting l.n l.node_table l.from l.to l.moves l.v l.count
