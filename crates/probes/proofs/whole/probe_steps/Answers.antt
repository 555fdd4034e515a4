use Rattle.probes.proofs.ProbeLaws.{steps-answer, parts-of}
use Rattle.probes.proofs.whole.probe_steps.Goals as goal

pub returns : goal.returns
returns c =
    steps-answer _ _ _ _ _ _ c.loaded-before.ensures c.start_at-out.ensures _ _ _ (parts-of _ _ c.parts_in-parts.ensures) c.advance_by-end.ensures
