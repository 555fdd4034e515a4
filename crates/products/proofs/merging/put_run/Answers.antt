-- One state more is written in each iteration.
use Rattle.std.proofs.Common.{refl, arith}
use Rattle.products.proofs.merging.WriteLaws.{fill_start, fill-next}
use Rattle.products.proofs.merging.put_run.Goals as goal

pub loop-i-init : goal.loop-i-init
loop-i-init c = fill_start _ _ _ _ c.requires.room

pub loop-i-preserved : goal.loop-i-preserved
loop-i-preserved c = fill-next c.loop-i.invariant (omega arith) _ refl
