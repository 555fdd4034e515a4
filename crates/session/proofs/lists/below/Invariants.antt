-- The running answer and that of the numbers to come make the answer for all.
use Rattle.std.proofs.Common.{◌≡◌, ◌&&◌, drop}
use Rattle.list_laws.specs.Tests.{all_below}
use Rattle.session.proofs.lists.below.Given as goal

abbrev pub invariant-loop-x : goal.invariant-loop-x
invariant-loop-x l = (l.ok && all_below l.bound (drop l.x-index l.xs)) ≡ all_below l.bound l.xs
