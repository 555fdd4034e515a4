-- `probes::whole::probe_question` meets its contract. It is the question on the session that is loaded.
use mathlib.Core.Path.{◌∙◌, ap}
use Rattle.session.specs.declared.state.Session.{Session}
use Rattle.formats.specs.Inputs.{inputs_of}
use Rattle.probes.specs.Probed.{question_in}
use Rattle.probes.proofs.whole.probe_question.Goals as goal

pub returns : goal.returns
returns c =
    let a = c.args in
    c.question_on.ensures
    ∙ ap (λ (s : Session). question_in (inputs_of a.plan.now a.rules.now a.node_table.now a.state_table.now) a.nodes.now a.labels.now s)
    c.loaded-before.ensures
