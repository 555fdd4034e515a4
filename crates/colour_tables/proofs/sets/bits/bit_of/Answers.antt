-- `bit_of` meets its contract: a shift and a mask give membership.
use Rattle.colour_tables.proofs.sets.BitLaws.{bit_is}
use Rattle.colour_tables.proofs.sets.bits.bit_of.Goals as goal

pub returns : goal.returns
returns c =
    bit_is c.args.t c.args.k
