-- The row is lowered by the left states below p.
use Rattle.std.proofs.Common.{get_or}
use Rattle.state_sets.specs.StateSets.{member}
use Rattle.fewest.specs.Least.{least_to, no_way_out}
use Rattle.fewest.specs.inner.Rows.{right_cost, Relaxed}
use Rattle.fewest.proofs.rows.relax.relax_left.Given as goal

abbrev pub invariant-loop-p : goal.invariant-loop-p
invariant-loop-p l =
    Relaxed l.s
    (λ j. least_to no_way_out l.p (λ p. right_cost l.inner l.s l.k p l.a (member l.labels) (get_or l.left p 0) l.right j))
    l.initial.row l.row
