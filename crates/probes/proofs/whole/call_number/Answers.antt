-- `probes::whole::call_number` meets its contract. Each case of the answer is one of the definition's.
use Rattle.probes.proofs.ProbeLaws.{number-none-by, number-some-by}
use Rattle.probes.proofs.whole.call_number.Goals as goal

pub returns-in-Ok : goal.returns-in-Ok
returns-in-Ok g c = number-none-by g.E.HasNumber.number_in _ _ c.in-Ok.is

pub returns-in-Err : goal.returns-in-Err
returns-in-Err g c = number-some-by g.E.HasNumber.number_in _ _ _ c.in-Err.is c.number_of.ensures
