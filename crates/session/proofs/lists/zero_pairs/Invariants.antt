-- The numbers and bytes or-ed so far and those to come give the answer for all.
use Rattle.std.proofs.Common.{◌≡◌, ◌&&◌, eqb, drop}
use Rattle.list_laws.specs.Tests.{all_below}
use Rattle.session.proofs.lists.zero_pairs.Given as goal

abbrev pub invariant-loop-i : goal.invariant-loop-i
invariant-loop-i l =
    (eqb l.all 0 && (all_below 1 (drop l.i l.xs) && all_below 1 (drop l.i l.ys))) ≡ (all_below 1 l.xs && all_below 1 l.ys)
