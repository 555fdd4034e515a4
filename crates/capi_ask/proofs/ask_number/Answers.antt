-- A whole question's answer: its five values, or a refusal.
use Rattle.std.proofs.Common.{refl}
use Rattle.capi_ask.proofs.ask_number.Goals as goal

pub returns-in-Ok : goal.returns-in-Ok
returns-in-Ok c =
    rw c.in-Ok.is record {
      result = refl;
      state_answer = refl;
      yes_answer = c.bit.ensures;
      parts_answer = refl;
      links_answer = refl;
      passed_answer = refl;
    }

pub returns-in-Err : goal.returns-in-Err
returns-in-Err c =
    rw c.in-Err.is record {
      result = c.number.ensures;
      state_answer = refl;
      yes_answer = refl;
      parts_answer = refl;
      links_answer = refl;
      passed_answer = refl;
    }
