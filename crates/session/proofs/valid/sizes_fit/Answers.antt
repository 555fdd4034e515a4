-- `session::valid::sizes_fit` meets its contract. Each test is one of the definition's.
use Rattle.session.proofs.ValidLaws.{sizes-test}
use Rattle.session.proofs.valid.sizes_fit.Goals as goal

pub returns : goal.returns
returns c = sizes-test _
