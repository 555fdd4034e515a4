use mathlib.Core.Path.{ap, ◌∙◌}
use Rattle.formats.specs.Inputs.{inputs_of}
use Rattle.session.specs.declared.state.Session.{Session}
use Rattle.probes.specs.EightProbed.{eight_in}
use Rattle.probes.proofs.ProbeLaws.{parts-of, read-of, number-of}
use Rattle.probes.proofs.EightLaws.{eight-answer}
use Rattle.probes.proofs.eight.probe_screens.Goals as goal

pub returns : goal.returns
returns c =
    let a = c.args in
    eight-answer _ _ _ _ _ _ _ c.loaded-one.result c.start_on-started.result c.start_on-started.ensures c.start_on-second.result
    c.start_on-second.ensures c.deal_by-dealt.result c.deal_by-dealt.ensures.0 c.deal_by-dealt.ensures.1 c.cancel_on-ended.result
    c.cancel_on-ended.ensures c.read_on-outcome.result c.read_on-outcome.ensures _ _ _ _ (parts-of _ _ c.parts_in-parts.ensures)
    (parts-of _ _ c.parts_in-others.ensures) (number-of _ _ c.call_number-cancel.ensures) (read-of _ _ c.read_in-read.ensures)
    ∙ ap (λ (s : Session). eight_in (inputs_of a.plan.now a.rules.now a.node_table.now a.state_table.now) a.nodes.now
    a.labels.now a.screen a.other a.first a.count s) c.loaded-one.ensures
