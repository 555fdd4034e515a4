-- `start_colour` meets its contract: the part that is looked through is the copy's row.
use Rattle.colour_questions.proofs.branch.StepLaws.{colour-top, colour-node}
use Rattle.colour_questions.proofs.branch.steps.start_colour.Goals as goal

pub returns-then-z-n : goal.returns-then-z-n
returns-then-z-n c =
    let g = c.args in colour-top g.s g.bytes.now g.n g.z c.if-z-n.true

pub returns : goal.returns
returns c =
    let g = c.args in
    colour-node g.s g.bytes.now g.n g.z c.place_of.result c.if-z-n.false c.place_of.ensures.0
