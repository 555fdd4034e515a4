use Rattle.probes.proofs.ProbeLaws.{read_some-by, read_none-by}
use Rattle.probes.proofs.whole.read_in.Goals as goal

pub returns-in-Ok : goal.returns-in-Ok
returns-in-Ok g c = read_some-by g.E.HasNumber.number_in _ _ c.in-Ok.is

pub returns-in-Err : goal.returns-in-Err
returns-in-Err g c = read_none-by g.E.HasNumber.number_in _ _ c.in-Err.is
