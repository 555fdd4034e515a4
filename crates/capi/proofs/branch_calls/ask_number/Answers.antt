-- A branch question's answer: its four values, or a refusal.
use Rattle.std.proofs.Common.{refl}
use Rattle.capi.proofs.branch_calls.ask_number.Goals as goal

pub returns-in-Ok : goal.returns-in-Ok
returns-in-Ok g c =
    rw c.in-Ok.is record {
      result = refl;
      state_answer = refl;
      yes_answer = c.bit.ensures;
      links_answer = refl;
      passed_answer = refl;
    }

pub returns-in-Err : goal.returns-in-Err
returns-in-Err g c =
    rw c.in-Err.is record {
      result = c.number_of.ensures;
      state_answer = refl;
      yes_answer = refl;
      links_answer = refl;
      passed_answer = refl;
    }
