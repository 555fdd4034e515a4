use Rattle.probes.proofs.EightLaws.{next-told, next-refused}
use Rattle.probes.proofs.eight.next_after.Goals as goal

pub returns-in-Ok : goal.returns-in-Ok
returns-in-Ok c = next-told _ _ _ c.in-Ok.is

pub returns-in-Err : goal.returns-in-Err
returns-in-Err c = next-refused _ _ _ c.in-Err.is
