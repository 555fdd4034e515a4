-- The row is lowered by the labels below b.
use Rattle.state_sets.specs.StateSets.{member}
use Rattle.fewest.specs.Least.{least_to, no_way_out}
use Rattle.fewest.specs.inner.Rows.{leaf_cost, Relaxed}
use Rattle.fewest.proofs.rows.leaves.relax_leaf.Given as goal

abbrev pub invariant-loop-b : goal.invariant-loop-b
invariant-loop-b l =
    Relaxed l.s (λ j. least_to no_way_out l.b (leaf_cost l.leaves l.a (member l.labels) j)) l.initial.row l.row
