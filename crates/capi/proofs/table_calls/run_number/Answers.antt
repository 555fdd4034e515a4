-- A fresh run's answer: a verdict, or a refusal.
use Rattle.std.proofs.Common.{refl}
use Rattle.capi.proofs.table_calls.run_number.Goals as goal

pub returns-in-Ok : goal.returns-in-Ok
returns-in-Ok c = rw c.in-Ok.is record { result = refl; state_answer = refl; yes_answer = c.bit.ensures }

pub returns-in-Err : goal.returns-in-Err
returns-in-Err c = rw c.in-Err.is record { result = c.number.ensures; state_answer = refl; yes_answer = refl }
