-- One row more is written in each iteration.
use Rattle.std.proofs.Common.{arith}
use Rattle.products.proofs.merging.WriteLaws.{fill_none}
use Rattle.products.proofs.merging.PartLaws.{inner-call, inner-next}
use Rattle.products.proofs.merging.put_inner.Goals as goal

pub loop-r-init : goal.loop-r-init
loop-r-init c = fill_none _ _ _ _ _ c.requires.room

pub put_nth_row-requires : goal.put_nth_row-requires
put_nth_row-requires c = inner-call _ _ _ _ _ _ _ _ c.loop-r.r c.requires c.loop-r.invariant (omega arith)

pub loop-r-preserved : goal.loop-r-preserved
loop-r-preserved c =
    inner-next _ _ _ _ _ _ _ _ c.loop-r.r c.requires c.loop-r.invariant (omega arith) _ c.put_nth_row.ensures
