-- `session::state::Session::load` meets its contract. Each return cites the law of its answer.
use Rattle.std.proofs.Common.{ap, not}
use Rattle.formats.specs.Inputs.{Inputs, inputs_of}
use mathlib.Core.Path.{◌≡◌}
use mathlib.Core.Bool.{◌&&◌}
use Rattle.model.specs.Calls.{may_load}
use Rattle.session.specs.Records.{phase_of, valid}
use Rattle.formats.specs.Inputs.{inputs_of}
use Rattle.session.proofs.ShapeLaws.{shaped}
use Rattle.session.proofs.CallLaws.{allowed-by}
use Rattle.session.proofs.LoadLaws.{load-1, load-headers, load-built, load-refused}
use borrow.Author.Rules.{rules}
use Rattle.session.proofs.state.Session.load.Statement.{statement}
use Rattle.session.proofs.state.Session.load.Tie as tie

abbrev lent : tie.After-allowed → Inputs
lent c = inputs_of c.args.plan.now c.args.rules.now c.args.node_table.now c.args.state_table.now

may : (m : tie.After-allowed) → m.allowed.result
    ≡ (valid m.args.self && may_load (phase_of m.args.self.head.phase))
may m = allowed-by may_load m.args.self _ _ m.may_load-may.ensures m.allowed.ensures

returns : tie.Need-returns-then-not-allowed
returns c =
    load-1 c.args.self (shaped c.args.self c.well_formed.0) (lent c.before) _ (may c.before) (ap not c.if-not-allowed.true)

loaded-from-requires : tie.Need-loaded_from-session-requires
loaded-from-requires c κs =
    load-headers c.args.self (shaped c.args.self c.well_formed.0) (lent c.before.before.before.before.before.before.before.before.before) _ (may c.before.before.before.before.before.before.before.before.before) (ap not c.if-not-allowed.false) _ _ _
    c.build_tables.ensures _ c.in-Ok.is

returns-2 : tie.Need-returns-in-Ok
returns-2 c =
    load-built c.args.self (shaped c.args.self c.well_formed.0) (lent c.before.before.before.before.before.before.before.before.before.before) _ (may c.before.before.before.before.before.before.before.before.before.before) (ap not c.if-not-allowed.false) _ _ _
    c.build_tables.ensures _ c.in-Ok.is _ c.loaded_from-session.ensures

returns-3 : tie.Need-returns-in-Err
returns-3 c =
    load-refused c.args.self (shaped c.args.self c.well_formed.0) (lent c.before.before.before.before.before.before.before.before.before) _ (may c.before.before.before.before.before.before.before.before.before) (ap not c.if-not-allowed.false) _ _ _
    c.build_tables.ensures _ c.in-Err.is

pub load_spec : {M : Type 1} → statement M
load_spec =
    tie.close
    (tie.spec (λ c κs. search rules) (λ c κs. search rules) returns (λ c κs. search rules) (λ c. search rules)
    loaded-from-requires (λ c. search rules) (λ c. search rules) returns-2 (λ c. search rules) (λ c. search rules)
    (λ c. search rules) returns-3)
