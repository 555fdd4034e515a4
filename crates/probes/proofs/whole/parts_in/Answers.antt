use Rattle.probes.proofs.ProbeLaws.{parts-some-by, parts_none-by}
use Rattle.probes.proofs.whole.parts_in.Goals as goal

pub returns-in-Ok : goal.returns-in-Ok
returns-in-Ok g c = parts-some-by g.E.HasNumber.number_in _ _ c.in-Ok.is

pub returns-in-Err : goal.returns-in-Err
returns-in-Err g c = parts_none-by g.E.HasNumber.number_in _ _ c.in-Err.is
