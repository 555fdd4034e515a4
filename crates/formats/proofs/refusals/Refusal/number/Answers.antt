-- `Refusal::number` meets its contract.
use Rattle.formats.proofs.RefusalLaws.{tag-number}
use Rattle.formats.proofs.refusals.Refusal.number.Goals as goal

pub returns : goal.returns
returns c = tag-number c.args.self
