-- The first i states of the stretch are written.
use Rattle.std.proofs.Common.{◌+◌, length, get_or}
use Rattle.products.proofs.merging.WriteLaws.{Fill}
use Rattle.products.proofs.merging.put_run.Given as goal

abbrev pub invariant-loop-i : goal.invariant-loop-i
invariant-loop-i l = Fill l.at (length l.second) (λ q. l.x + get_or l.second q 0) l.initial.out l.out l.i
