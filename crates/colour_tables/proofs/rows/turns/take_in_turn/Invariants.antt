-- After c iterations the row is that of the first c colours.
use Rattle.colour_tables.proofs.rows.TakeLoop.{Taking}
use Rattle.colour_tables.proofs.rows.turns.take_in_turn.Given as goal

abbrev pub invariant-loop-c : goal.invariant-loop-c
invariant-loop-c l =
    Taking l.successors l.fn.bytes l.fn.numbers l.n l.at l.v l.bytes l.numbers l.owners l.taken l.c
