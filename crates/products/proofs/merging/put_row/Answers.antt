-- One stretch more is written in each iteration.
use Rattle.std.proofs.Common.{arith}
use Rattle.products.proofs.merging.WriteLaws.{fill_none}
use Rattle.products.proofs.merging.PartLaws.{row_next}
use Rattle.products.proofs.merging.put_row.Goals as goal

pub loop-p-init : goal.loop-p-init
loop-p-init c = fill_none _ _ _ _ _ c.requires.room

pub loop-p-preserved : goal.loop-p-preserved
loop-p-preserved c = row_next _ _ _ _ _ _ c.loop-p.p c.requires c.loop-p.invariant (omega arith) _ c.put_run.ensures
