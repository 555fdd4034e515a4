-- None of the labels below b does.
use Rattle.std.proofs.Common.{◌≡◌, ℕ, ◌<◌, false}
use Rattle.state_sets.specs.StateSets.{member}
use Rattle.fewest.specs.inner.down.Search.{label_hit}
use Rattle.fewest.proofs.down.search.find_label.Given as goal

abbrev pub invariant-loop-b : goal.invariant-loop-b
invariant-loop-b l =
    (i : ℕ) → i < l.b → label_hit l.inner l.s l.k l.p l.q l.a (member l.labels) l.base l.j l.c i ≡ false
