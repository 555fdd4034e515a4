-- The nodes from v on are done.
use Rattle.colour_tables.proofs.set_states.SetLoop.{Sets}
use Rattle.colour_tables.proofs.set_states.sets.write_sets.Given as goal

abbrev pub invariant-loop-v : goal.invariant-loop-v
invariant-loop-v l =
    Sets l.labels l.inner l.s l.k l.count l.base l.fn.bytes l.fn.numbers l.v l.bytes l.numbers
