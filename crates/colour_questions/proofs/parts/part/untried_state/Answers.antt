-- `untried_state` meets its contract.
use Rattle.colour_questions.proofs.parts.TrialLaws.{untried-no, untried-yes}
use Rattle.colour_questions.proofs.parts.part.untried_state.Goals as goal

pub returns-then-s-q : goal.returns-then-s-q
returns-then-s-q c =
    untried-no c.args.s c.args.q c.if-s-q.true

pub returns : goal.returns
returns c =
    untried-yes c.args.s c.args.q c.if-s-q.false
