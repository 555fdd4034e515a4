-- `bit_of` meets its contract: a shift and a mask give membership.
use Rattle.state_sets.proofs.BitLaws.{bit_is}
use Rattle.state_sets.proofs.gather.bit_of.Goals as goal

pub returns : goal.returns
returns c = bit_is c.args.set c.args.x
