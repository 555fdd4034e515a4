-- `session::advance::handled` meets its contract. The last part, and any other.
use Rattle.session.proofs.StepLaws.{handled-last, handled-more}
use Rattle.session.proofs.advance.handled.Goals as goal

pub returns-then-h : goal.returns-then-h
returns-then-h c =
    handled-last _ _ _ _ _ _ c.if-h.true _ _ c.stepped-head.ensures c.is_marked-yes.ensures c.answer_of-last.ensures

pub returns : goal.returns
returns c = handled-more _ _ _ _ _ _ c.if-h.false c.stepped-head-2.ensures
