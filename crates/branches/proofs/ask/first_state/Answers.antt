-- `ask::first_state` meets its contract, in both readings.
use Rattle.branches.proofs.FinishLaws.{first-start}
use Rattle.branches.proofs.ask.first_state.Goals as goal

pub returns-in-WithUpper : goal.returns-in-WithUpper
returns-in-WithUpper c = rw c.in-WithUpper.is c.after_upper.ensures

pub returns-in-BelowUpper : goal.returns-in-BelowUpper
returns-in-BelowUpper c =
    rw c.in-BelowUpper.is (first-start _ _ _ _ _ c.requires.least)
