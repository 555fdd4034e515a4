use Rattle.probes.proofs.ProbeLaws.{part-reached, part-outside}
use Rattle.probes.proofs.layers.probe_part.Goals as goal

pub returns-in-Reached : goal.returns-in-Reached
returns-in-Reached c =
    part-reached _ _ c.in-Reached.found c.in-Reached.is c.part.ensures.result

pub returns-in-OutOfRange : goal.returns-in-OutOfRange
returns-in-OutOfRange c = part-outside _ _ c.in-OutOfRange.is c.part.ensures.result
