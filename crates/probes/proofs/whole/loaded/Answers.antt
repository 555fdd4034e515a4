-- `probes::whole::loaded` meets its contract: its record is that after a first Load, field by field.
use mathlib.Core.Path.{ap, ◌∙◌}
use Rattle.model.specs.Model.{idle}
use Rattle.session.specs.declared.state.Phase.TheVariants.{Loaded}
use Rattle.session.specs.declared.state.Last.{Last}
use Rattle.session.specs.Records.{session_of, phase_to, idle_session}
use Rattle.probes.proofs.whole.loaded.Goals as goal

pub returns : goal.returns
unfolding session_of phase_to idle
returns c =
    let a = c.args in
    c.idle.ensures ∙ ap (λ (l : Last). idle_session Loaded (record { n = a.n; s = a.s; k = a.k }) l) c.no_last-last.ensures
