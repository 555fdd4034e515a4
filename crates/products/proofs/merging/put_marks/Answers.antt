-- One mark more is written in each iteration.
use Rattle.std.proofs.Common.{refl, arith}
use Rattle.products.proofs.merging.WriteLaws.{fill_start, fill-next}
use Rattle.products.proofs.merging.put_marks.Goals as goal

pub loop-c-init : goal.loop-c-init
loop-c-init c = fill_start _ _ _ _ c.requires.room

pub loop-c-preserved : goal.loop-c-preserved
loop-c-preserved c = fill-next c.loop-c.invariant (omega arith) _ refl
