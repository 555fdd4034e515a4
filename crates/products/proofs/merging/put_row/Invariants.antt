-- The first p stretches of the row are written.
use Rattle.std.proofs.Common.{◌*◌, length}
use Rattle.products.specs.merging.Writes.{row_cell}
use Rattle.products.proofs.merging.WriteLaws.{Fill}
use Rattle.products.proofs.merging.put_row.Given as goal

abbrev pub invariant-loop-p : goal.invariant-loop-p
invariant-loop-p l = Fill l.at (length l.first * l.s2) (row_cell l.first l.second l.s2) l.initial.out l.out (l.p * l.s2)
