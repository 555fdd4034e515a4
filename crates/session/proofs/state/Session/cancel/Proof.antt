-- `session::state::Session::cancel` meets its contract. Each return cites the law of its answer.
use Rattle.std.proofs.Common.{ap, not}
use mathlib.Core.Path.{◌≡◌}
use mathlib.Core.Bool.{◌&&◌}
use Rattle.model.specs.Calls.{is_running}
use Rattle.session.specs.Records.{phase_of, valid}
use Rattle.session.proofs.ShapeLaws.{shaped}
use Rattle.session.proofs.CallLaws.{allowed-by}
use Rattle.session.proofs.CancelLaws.{cancel-no, cancel-yes}
use borrow.Author.Rules.{rules}
use Rattle.session.proofs.state.Session.cancel.Statement.{statement}
use Rattle.session.proofs.state.Session.cancel.Tie as tie

may : (m : tie.After-allowed) → m.allowed.result
    ≡ (valid m.args.self && is_running (phase_of m.args.self.head.phase))
may m = allowed-by is_running m.args.self _ _ m.may_advance-may.ensures m.allowed.ensures

returns : tie.Need-returns-then-not-allowed
returns c =
    cancel-no c.args.self (shaped c.args.self c.well_formed.0) _ (may c.before) (ap not c.if-not-allowed.true)

returns-2 : tie.Need-returns
returns-2 c =
    cancel-yes c.args.self (shaped c.args.self c.well_formed.0) _ (may c.before.before.before.before) (ap not c.if-not-allowed.false) _ c.loaded-session.ensures

pub cancel_spec : {M : Type 1} → statement M
cancel_spec = tie.close (tie.spec (λ c κs. search rules) (λ c κs. search rules) returns (λ c κs. search rules)
    returns-2)
