-- None of the states below q does.
use Rattle.std.proofs.Common.{◌≡◌, ℕ, ◌<◌, false}
use Rattle.state_sets.specs.StateSets.{member}
use Rattle.fewest.specs.inner.down.Search.{right_hit}
use Rattle.fewest.proofs.down.search.find_right.Given as goal

abbrev pub invariant-loop-q : goal.invariant-loop-q
invariant-loop-q l =
    (i : ℕ) → i < l.q → right_hit l.work l.inner l.s l.k l.p l.x l.at l.a (member l.labels) l.j l.c i ≡ false
