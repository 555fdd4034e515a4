-- `descend_to` meets its contract, from the top copy and from a node.
use mathlib.Core.Path.{ap, ◌∙◌}
use Rattle.colours.specs.Descents.{Place, descend}
use Rattle.colour_tables.specs.ColourCells.{cell_table}
use Rattle.colour_questions.specs.path_drops.Descended.{descended_of}
use Rattle.colour_questions.proofs.branch.StepLaws.{place-top, place-node}
use Rattle.colour_questions.proofs.branch.steps.descend_to.Goals as goal

pub returns-then-z-n : goal.returns-then-z-n
returns-then-z-n c =
    let g = c.args in
    c.descend_from.ensures
    ∙ ap (λ (z : Place). descended_of (descend (cell_table g.n g.numbers.now) g.c z g.l g.c))
    (place-top g.n g.z c.if-z-n.true)

pub returns : goal.returns
returns c =
    let g = c.args in
    c.descend_from-2.ensures
    ∙ ap (λ (z : Place). descended_of (descend (cell_table g.n g.numbers.now) g.c z g.l g.c))
    (place-node g.n g.z c.if-z-n.false)
