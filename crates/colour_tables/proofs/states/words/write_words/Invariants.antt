-- The nodes from v on are done.
use Rattle.colour_tables.proofs.states.WordLoop.{Words}
use Rattle.colour_tables.proofs.states.words.write_words.Given as goal

abbrev pub invariant-loop-v : goal.invariant-loop-v
invariant-loop-v l = Words l.labels l.steps l.s l.k l.fn.bytes l.fn.numbers l.v l.bytes l.numbers
