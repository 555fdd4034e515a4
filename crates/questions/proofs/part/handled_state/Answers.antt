-- By whether the number is a state.
use Rattle.questions.proofs.PartLaws.{answer-no, answer-yes}
use Rattle.questions.proofs.part.handled_state.Goals as goal

pub returns-then-s-q : goal.returns-then-s-q
returns-then-s-q c = let g = c.args in answer-no g.s g.q c.if-s-q.true

pub returns : goal.returns
returns c = let g = c.args in answer-yes g.s g.q c.if-s-q.false
