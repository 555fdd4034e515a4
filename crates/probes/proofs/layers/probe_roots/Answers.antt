use Rattle.probes.proofs.ProbeLaws.{roots-probed}
use Rattle.probes.proofs.layers.probe_roots.Goals as goal

pub returns : goal.returns
returns c = roots-probed _ _ c.roots-found.ensures.result
