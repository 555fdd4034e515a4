-- The changes at the nodes below v are listed.
use Rattle.std.proofs.Common.{◌≡◌, length, get_or}
use Rattle.fewest.specs.inner.passes.Cells.{size_cell}
use Rattle.fewest.specs.inner.list.Lists.{Listed}
use Rattle.fewest.proofs.list.entries.list_changes.Given as goal

abbrev pub invariant-loop-v : goal.invariant-loop-v
invariant-loop-v l =
    (length l.nodes ≡ length l.initial.nodes) × (length l.out ≡ length l.initial.out)
    × Listed (λ i. get_or l.labels i 0) (size_cell l.s l.work) l.v l.initial.nodes l.initial.out l.c l.nodes l.out
