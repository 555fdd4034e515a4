-- The numbers or-ed so far and those to come give the answer for all.
use Rattle.std.proofs.Common.{◌≡◌, ◌&&◌, eqb, drop}
use Rattle.list_laws.specs.Tests.{all_below}
use Rattle.session.proofs.lists.zeros.Given as goal

abbrev pub invariant-loop-x : goal.invariant-loop-x
invariant-loop-x l = (eqb l.all 0 && all_below 1 (drop l.x-index l.xs)) ≡ all_below 1 l.xs
