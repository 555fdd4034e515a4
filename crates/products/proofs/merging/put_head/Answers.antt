-- The five numbers of the header are written, one behind the other.
use Rattle.products.proofs.merging.PartLaws.{head-written}
use Rattle.products.proofs.merging.put_head.Goals as goal

pub returns : goal.returns
returns c =
    head-written c.args.s c.args.k _ c.args.out.now _ _ _ _ _ c.requires c.inner_count.ensures.value c.put32.ensures
    c.put32-2.ensures c.put32-3.ensures c.put32-4.ensures c.put32-5.ensures
