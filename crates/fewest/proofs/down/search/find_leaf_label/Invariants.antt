-- None of the labels below b does.
use Rattle.std.proofs.Common.{◌≡◌, ℕ, ◌<◌, false, eqb}
use Rattle.state_sets.specs.StateSets.{member}
use Rattle.fewest.specs.inner.Rows.{leaf_cost}
use Rattle.fewest.proofs.down.search.find_leaf_label.Given as goal

abbrev pub invariant-loop-b : goal.invariant-loop-b
invariant-loop-b l =
    (i : ℕ) → i < l.b → eqb (leaf_cost l.leaves l.a (member l.labels) l.j i) l.c ≡ false
