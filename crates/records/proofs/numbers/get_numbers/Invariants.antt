-- The numbers passed are read, and behind them is what was there.
use Rattle.std.proofs.Common.{◌≡◌, ◌*◌, ◌++◌, take, drop}
use Rattle.records.specs.Layout.{numbers16}
use Rattle.records.proofs.numbers.get_numbers.Given as goal

abbrev pub invariant-loop-i : goal.invariant-loop-i
invariant-loop-i l = l.out ≡ numbers16 (take (2 * l.i) l.bytes) ++ drop l.i l.initial.out
