-- `Session::start` meets its contract: each return cites the law of its answer.
use Rattle.std.proofs.Common.{ap, sym, not}
use Rattle.model.specs.Calls.{may_start}
use Rattle.formats.specs.Inputs.{inputs_of}
use Rattle.formats.specs.Refusals.{answer_number}
use Rattle.session.proofs.ShapeLaws.{shaped}
use Rattle.session.proofs.CallLaws.{allowed-by}
use Rattle.session.proofs.StartLaws.{start-1, start-limits, start-17, start-room, start-headers, start-list, start-listed, start-18}
use Rattle.session.proofs.StartLaws.{start-yes}
use Rattle.session.proofs.state.Session.start.Goals as goal

pub returns-then-not-allowed : goal.returns-then-not-allowed
returns-then-not-allowed c =
    let lent = inputs_of c.args.plan.now c.args.rules.now c.args.node_table.now c.args.state_table.now in
    let may = allowed-by may_start c.args.self _ _ c.may_start-may.ensures c.allowed.ensures in
    rw c.refused.ensures
    (start-1 c.args.self (shaped c.args.self c.well_formed.0) lent c.args.nodes.now c.args.labels.now _ may (ap not c.if-not-allowed.true))

pub rule_buffers_fit-requires : goal.rule_buffers_fit-requires
rule_buffers_fit-requires c =
    let lent = inputs_of c.args.plan.now c.args.rules.now c.args.node_table.now c.args.state_table.now in
    let may = allowed-by may_start c.args.self _ _ c.may_start-may.ensures c.allowed.ensures in
    start-limits c.args.self (shaped c.args.self c.well_formed.0) lent c.args.nodes.now c.args.labels.now _ may (ap not c.if-not-allowed.false)

pub returns-then-not-rule_buffers_fit : goal.returns-then-not-rule_buffers_fit
returns-then-not-rule_buffers_fit c =
    let lent = inputs_of c.args.plan.now c.args.rules.now c.args.node_table.now c.args.state_table.now in
    let may = allowed-by may_start c.args.self _ _ c.may_start-may.ensures c.allowed.ensures in
    rw c.refused-then-not-rule_buffers_fit.ensures
    (start-17 c.args.self (shaped c.args.self c.well_formed.0) lent c.args.nodes.now c.args.labels.now _ may (ap not c.if-not-allowed.false) _ c.rule_buffers_fit.ensures
    (ap not c.if-not-rule_buffers_fit.true))

pub returns-in-Err : goal.returns-in-Err
returns-in-Err c =
    let lent = inputs_of c.args.plan.now c.args.rules.now c.args.node_table.now c.args.state_table.now in
    let may = allowed-by may_start c.args.self _ _ c.may_start-may.ensures c.allowed.ensures in
    rw c.refused-in-Err.ensures
    (start-list c.args.self (shaped c.args.self c.well_formed.0) lent c.args.nodes.now c.args.labels.now _ may (ap not c.if-not-allowed.false)
    _ c.rule_buffers_fit.ensures (ap not c.if-not-rule_buffers_fit.false) _ c.check_list.ensures _ (sym (ap answer_number c.in-Err.is)))

pub tables_sound-requires : goal.tables_sound-requires
tables_sound-requires c =
    let lent = inputs_of c.args.plan.now c.args.rules.now c.args.node_table.now c.args.state_table.now in
    let may = allowed-by may_start c.args.self _ _ c.may_start-may.ensures c.allowed.ensures in
    start-headers c.args.self (shaped c.args.self c.well_formed.0) lent c.args.nodes.now c.args.labels.now _ may (ap not c.if-not-allowed.false)
    _ c.rule_buffers_fit.ensures (ap not c.if-not-rule_buffers_fit.false)

pub returns-then-not-tables_sound : goal.returns-then-not-tables_sound
returns-then-not-tables_sound c =
    let lent = inputs_of c.args.plan.now c.args.rules.now c.args.node_table.now c.args.state_table.now in
    let may = allowed-by may_start c.args.self _ _ c.may_start-may.ensures c.allowed.ensures in
    rw c.refused-then-not-tables_sound.ensures
    (start-18 c.args.self (shaped c.args.self c.well_formed.0) lent c.args.nodes.now c.args.labels.now _ may (ap not c.if-not-allowed.false)
    _ c.rule_buffers_fit.ensures (ap not c.if-not-rule_buffers_fit.false) _ c.check_list.ensures (ap answer_number c.in_default.is)
    _ c.tables_sound.ensures (ap not c.if-not-tables_sound.true))

pub roots_left-found-requires : goal.roots_left-found-requires
roots_left-found-requires c =
    let lent = inputs_of c.args.plan.now c.args.rules.now c.args.node_table.now c.args.state_table.now in
    let may = allowed-by may_start c.args.self _ _ c.may_start-may.ensures c.allowed.ensures in
    start-room c.args.self (shaped c.args.self c.well_formed.0) lent c.args.nodes.now c.args.labels.now _ may (ap not c.if-not-allowed.false)
    _ c.rule_buffers_fit.ensures (ap not c.if-not-rule_buffers_fit.false)

pub started-session-requires : goal.started-session-requires
started-session-requires c =
    let lent = inputs_of c.args.plan.now c.args.rules.now c.args.node_table.now c.args.state_table.now in
    let may = allowed-by may_start c.args.self _ _ c.may_start-may.ensures c.allowed.ensures in
    start-listed c.args.self (shaped c.args.self c.well_formed.0) lent c.args.nodes.now c.args.labels.now _ may (ap not c.if-not-allowed.false)
    _ c.rule_buffers_fit.ensures (ap not c.if-not-rule_buffers_fit.false) _ c.check_list.ensures (ap answer_number c.in_default.is)

pub returns : goal.returns
returns c =
    let lent = inputs_of c.args.plan.now c.args.rules.now c.args.node_table.now c.args.state_table.now in
    let may = allowed-by may_start c.args.self _ _ c.may_start-may.ensures c.allowed.ensures in
    start-yes c.args.self (shaped c.args.self c.well_formed.0) lent c.args.nodes.now c.args.labels.now _ may (ap not c.if-not-allowed.false)
    _ c.rule_buffers_fit.ensures (ap not c.if-not-rule_buffers_fit.false) _ c.check_list.ensures (ap answer_number c.in_default.is)
    _ c.tables_sound.ensures (ap not c.if-not-tables_sound.false) _ c.roots_left-found.ensures _ c.started-session.ensures
