-- The first r rows of the inner run are written.
use Rattle.std.proofs.Common.{◌*◌}
use Rattle.products.specs.merging.Writes.{inner_cell}
use Rattle.products.proofs.merging.WriteLaws.{Fill}
use Rattle.products.proofs.merging.put_inner.Given as goal

abbrev pub invariant-loop-r : goal.invariant-loop-r
invariant-loop-r l =
    Fill l.at (l.s1 * l.s2 * l.k * (l.s1 * l.s2)) (inner_cell l.first l.second l.s1 l.s2 l.k) l.initial.out l.out
    (l.r * (l.s1 * l.s2))
