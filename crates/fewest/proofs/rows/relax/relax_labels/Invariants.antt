-- The row is lowered by the labels below b.
use Rattle.state_sets.specs.StateSets.{member}
use Rattle.fewest.specs.inner.Rows.{Relaxed}
use Rattle.fewest.proofs.rows.RowLaws.{so_far}
use Rattle.fewest.proofs.rows.relax.relax_labels.Given as goal

abbrev pub invariant-loop-b : goal.invariant-loop-b
invariant-loop-b l =
    Relaxed l.s (so_far l.inner l.s l.k l.p l.q l.a (member l.labels) l.base l.b) l.initial.row l.row
