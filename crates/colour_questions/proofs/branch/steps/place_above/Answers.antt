-- `place_above` meets its contract, by the way each test went.
use Rattle.colour_questions.proofs.branch.StepLaws.{place-root, place-outside, place-parent}
use Rattle.colour_questions.proofs.branch.steps.place_above.Goals as goal

pub returns-then-u-n : goal.returns-then-u-n
returns-then-u-n c =
    place-root _ _ _ c.if-u-n.true

pub returns-then-n-p : goal.returns-then-n-p
returns-then-n-p c =
    place-outside _ _ _ _ c.parent_at-p.ensures c.if-u-n.false c.if-n-p.true

pub returns : goal.returns
returns c =
    place-parent _ _ _ _ c.parent_at-p.ensures c.if-u-n.false c.if-n-p.false
