-- A full check's answer: yes or no, or a refusal.
use Rattle.std.proofs.Common.{refl}
use Rattle.capi.proofs.numbers.check_number.Goals as goal

pub returns-in-Ok : goal.returns-in-Ok
returns-in-Ok g c = rw c.in-Ok.is record { result = refl; yes_answer = c.bit.ensures }

pub returns-in-Err : goal.returns-in-Err
returns-in-Err g c = rw c.in-Err.is record { result = c.number_of.ensures; yes_answer = refl }
