-- `probes::whole::question_on` meets its contract. Its calls' promises are those of the definition.
use mathlib.Core.Path.{refl}
use Rattle.probes.proofs.ProbeLaws.{question-answer, parts-of, read-of}
use Rattle.probes.proofs.whole.question_on.Goals as goal

pub returns : goal.returns
returns c =
    question-answer _ _ _ _ _ _ refl c.start_at-out.ensures _ _ _ _ (parts-of _ _ c.parts_in.ensures) c.advance_by-end.ensures
    c.read_at-outcome.ensures (read-of _ _ c.read_in.ensures)
