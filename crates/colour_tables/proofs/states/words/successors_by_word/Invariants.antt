-- The first c are done.
use Rattle.std.proofs.Common.{◌+◌, ◌*◌, get_or}
use Rattle.colour_tables.specs.states.inner.Rows.{RowOf}
use Rattle.colour_tables.proofs.states.words.successors_by_word.Given as goal

abbrev pub invariant-loop-c : goal.invariant-loop-c
invariant-loop-c l = RowOf l.c (λ j. get_or l.steps (get_or l.row j 0 * l.k + l.a) 0) l.successors
