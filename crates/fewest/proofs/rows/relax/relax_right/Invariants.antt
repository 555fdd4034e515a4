-- The row is lowered by the right states below q.
use Rattle.std.proofs.Common.{◌+◌, get_or}
use Rattle.state_sets.specs.StateSets.{member}
use Rattle.fewest.specs.Least.{least_to, no_way_out}
use Rattle.fewest.specs.inner.Rows.{labels_cost, Relaxed}
use Rattle.fewest.proofs.rows.relax.relax_right.Given as goal

abbrev pub invariant-loop-q : goal.invariant-loop-q
invariant-loop-q l =
    Relaxed l.s
    (λ j. least_to no_way_out l.q (λ q. labels_cost l.inner l.s l.k l.p q l.a (member l.labels) (l.left + get_or l.right q 0) j))
    l.initial.row l.row
