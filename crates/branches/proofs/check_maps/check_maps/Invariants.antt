-- The maps of the nodes from v on are the automaton's.
use Rattle.branches.specs.inner.Maps.{Mapped}
use Rattle.branches.proofs.check_maps.check_maps.Given as goal

abbrev pub invariant-loop-v : goal.invariant-loop-v
invariant-loop-v l = Mapped l.labels l.node_table l.steps l.s l.k l.n l.v l.state_table l.state_table
