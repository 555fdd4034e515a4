-- The four bytes of a number are written, one behind the other.
use Rattle.products.proofs.merging.PartLaws.{word-written}
use Rattle.products.proofs.merging.put32.Goals as goal

pub returns : goal.returns
returns c = word-written c.args.at c.args.n c.args.out.now c.requires.inside
