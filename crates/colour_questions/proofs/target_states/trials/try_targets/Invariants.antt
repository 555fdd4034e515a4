-- At each iteration the trials left give the answer of all.
use Rattle.colour_tables.specs.ColourCells.{copy_row, cell_table}
use Rattle.colour_questions.proofs.target_states.TrialLoop.{Trying}
use Rattle.colour_questions.proofs.target_states.trials.try_targets.Given as goal

abbrev pub invariant-loop-x : goal.invariant-loop-x
invariant-loop-x l =
    Trying l.s (cell_table l.n l.numbers) (copy_row l.m l.copies) l.c l.w l.q l.drops l.links l.x
