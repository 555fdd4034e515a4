-- `session::valid::last_fits` meets its contract. Each test is one of the definition's.
use Rattle.session.proofs.ValidLaws.{last-absent, last-test}
use Rattle.session.proofs.valid.last_fits.Goals as goal

pub returns-then-not-l : goal.returns-then-not-l
returns-then-not-l c = last-absent _ _ _ c.if-not-l.true c.is_none.ensures

pub returns : goal.returns
returns c = last-test _ _ c.if-not-l.false
