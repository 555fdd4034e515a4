-- `with_bit` meets its contract: past all members a union is a sum.
use Rattle.colour_tables.proofs.sets.BitLaws.{joined, bound}
use Rattle.colour_tables.proofs.sets.bits.with_bit.Goals as goal

pub returns : goal.returns
returns c =
    let a = c.args in
    let e = joined a.r a.b a.i c.requires.one c.requires.few c.requires.low in
    (e, rw e (bound a.b a.i a.r c.requires.one c.requires.low))
