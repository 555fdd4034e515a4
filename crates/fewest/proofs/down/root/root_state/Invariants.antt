-- None of the states below j costs c.
use Rattle.std.proofs.Common.{◌≡◌, ℕ, ◌<◌, false, eqb}
use Rattle.fewest.specs.inner.down.Root.{root_cost}
use Rattle.fewest.proofs.down.root.root_state.Given as goal

abbrev pub invariant-loop-j : goal.invariant-loop-j
invariant-loop-j l =
    (i : ℕ) → i < l.j → eqb (root_cost l.work l.marks l.at l.mark i) l.c ≡ false
