-- None of the states below p does.
use Rattle.std.proofs.Common.{◌≡◌, ℕ, ◌<◌, false}
use Rattle.state_sets.specs.StateSets.{member}
use Rattle.fewest.specs.inner.down.Search.{left_hit}
use Rattle.fewest.proofs.down.search.find_left.Given as goal

abbrev pub invariant-loop-p : goal.invariant-loop-p
invariant-loop-p l =
    (i : ℕ) → i < l.p → left_hit l.work l.inner l.s l.k l.from l.at l.a (member l.labels) l.j l.c i ≡ false
