-- The first q are done.
use Rattle.std.proofs.Common.{◌+◌, ◌*◌, get_or}
use Rattle.colour_tables.specs.set_states.StatesAbove.{StatesAboveTo}
use Rattle.colour_tables.proofs.set_states.above.states_above_from.Given as goal

abbrev pub invariant-loop-q : goal.invariant-loop-q
invariant-loop-q l = StatesAboveTo l.q (λ j. get_or l.inner (l.base + j * l.stride) 0) l.above
