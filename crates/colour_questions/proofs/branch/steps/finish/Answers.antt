-- `finish` meets its contract, by its test.
use Rattle.colour_questions.proofs.branch.StepLaws.{finish-outside, finish-answer}
use Rattle.colour_questions.proofs.branch.steps.finish.Goals as goal

pub returns-then-s-q : goal.returns-then-s-q
returns-then-s-q c =
    let g = c.args in
    finish-outside g.s g.marks.now g.bytes.now g.l g.c g.drops g.links c.if-s-q.true

pub returns : goal.returns
returns c =
    let g = c.args in
    finish-answer g.s g.marks.now g.bytes.now g.l g.c g.drops g.links c.if-s-q.false
