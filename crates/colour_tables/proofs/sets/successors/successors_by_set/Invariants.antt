-- The first c are done.
use Rattle.colour_tables.specs.sets.Sets.{SuccessorsBy}
use Rattle.colour_tables.proofs.sets.successors.successors_by_set.Given as goal

abbrev pub invariant-loop-c : goal.invariant-loop-c
invariant-loop-c l = SuccessorsBy l.above l.row l.c l.successors
