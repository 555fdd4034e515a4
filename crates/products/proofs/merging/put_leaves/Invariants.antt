-- The first i leaf states are written.
use Rattle.std.proofs.Common.{length}
use Rattle.products.specs.merging.Writes.{leaf_cell}
use Rattle.products.proofs.merging.WriteLaws.{Fill}
use Rattle.products.proofs.merging.put_leaves.Given as goal

abbrev pub invariant-loop-i : goal.invariant-loop-i
invariant-loop-i l = Fill l.at (length l.first) (leaf_cell l.first l.second l.s2) l.initial.out l.out l.i
