-- `session::valid::is_none` meets its contract. Each test is one of the definition's.
use Rattle.session.proofs.ValidLaws.{none-test}
use Rattle.session.proofs.valid.is_none.Goals as goal

pub returns : goal.returns
returns c = none-test _
