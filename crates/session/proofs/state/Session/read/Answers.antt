-- `session::state::Session::read` meets its contract. Each return cites the law of its answer.
use Rattle.std.proofs.Common.{ap, not}
use Rattle.session.proofs.ShapeLaws.{shaped}
use Rattle.session.proofs.ReadLaws.{read_no, read-yes}
use Rattle.session.proofs.state.Session.read.Goals as goal

pub returns-then-not-allowed : goal.returns-then-not-allowed
returns-then-not-allowed c =
    read_no c.args.self (shaped c.args.self c.well_formed.0) _ c.allowed.ensures (ap not c.if-not-allowed.true)

pub returns : goal.returns
returns c =
    read-yes c.args.self (shaped c.args.self c.well_formed.0) _ c.allowed.ensures (ap not c.if-not-allowed.false)
