-- `start_place` meets its contract, reading by reading.
use Rattle.colour_questions.proofs.branch.StepLaws.{place_here}
use Rattle.colour_questions.proofs.branch.steps.start_place.Goals as goal

pub returns-in-BelowUpper : goal.returns-in-BelowUpper
returns-in-BelowUpper c =
    rw c.in-BelowUpper.is (place_here c.args.n c.args.node_table.now c.args.u c.requires.upper)
