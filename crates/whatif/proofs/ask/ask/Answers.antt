use Rattle.std.proofs.Common.{sym, ◌∙◌}
use Rattle.formats.specs.Inputs.{inputs_of}
use Rattle.whatif.proofs.AskLaws.{started-on, start-refused}
use Rattle.whatif.proofs.ask.ask.Goals as goal

pub returns-in_err-started : goal.returns-in_err-started
returns-in_err-started c =
    let a = c.args in
    let x = inputs_of a.plan.now a.rules.now a.node_table.now a.state_table.now in
    let d = c.start-started.result in
    start-refused a.loaded d.session x a.nodes.now a.labels.now d.answer c.start-started.ensures _ c.in_err-started.was
    c.from_residual.result c.from_residual.ensures.1

pub returns : goal.returns
returns c =
    let a = c.args in
    let x = inputs_of a.plan.now a.rules.now a.node_table.now a.state_table.now in
    let d = c.start-started.result in
    c.finish.ensures
    ∙ sym (started-on a.loaded d.session x a.nodes.now a.labels.now d.answer c.start-started.ensures _ c.in_ok-started.was)
