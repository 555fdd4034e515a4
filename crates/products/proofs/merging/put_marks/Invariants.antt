-- The first c marks are written.
use Rattle.products.specs.merging.Writes.{mark_cell}
use Rattle.products.proofs.merging.WriteLaws.{Fill}
use Rattle.products.proofs.merging.put_marks.Given as goal

abbrev pub invariant-loop-c : goal.invariant-loop-c
invariant-loop-c l = Fill l.at l.n (mark_cell l.first l.second l.s2) l.initial.out l.out l.c
