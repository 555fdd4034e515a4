-- The parts before i are done, and the rest gives what all of them give.
use Rattle.choices.proofs.AllLoop.{Going}
use Rattle.choices.proofs.parts.all_parts.Given as goal

abbrev pub invariant-loop-i : goal.invariant-loop-i
invariant-loop-i l =
    Going l.n l.s l.k l.labels l.kinds l.leaves l.inner l.node_table l.state_table l.nodes l.roots l.initial.table l.table l.links l.i
