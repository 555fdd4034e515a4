-- An answer's number, where it is accepted and where it is refused.
use Rattle.std.proofs.Common.{sym, ap, ◌∙◌}
use Rattle.formats.specs.Refusals.{number_by}
use Rattle.capi.proofs.numbers.number.Goals as goal

pub returns-in-Ok : goal.returns-in-Ok
returns-in-Ok g c = sym (ap (number_by g.E.HasNumber.number_in) c.in-Ok.is)

pub returns-in-Err : goal.returns-in-Err
returns-in-Err g c = c.number_of.ensures ∙ sym (ap (number_by g.E.HasNumber.number_in) c.in-Err.is)
