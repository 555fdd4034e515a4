-- The maps from v on are the automaton's, and no other byte is changed since the function's entry.
use Rattle.branches.specs.inner.Maps.{Mapped}
use Rattle.branches.proofs.maps.fill_maps.Given as goal

abbrev pub invariant-loop-v : goal.invariant-loop-v
invariant-loop-v l = Mapped l.labels l.node_table l.steps l.s l.k l.n l.v l.fn.state_table l.state_table
