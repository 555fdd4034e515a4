-- The numbers passed are written, and behind them is what was there.
use Rattle.std.proofs.Common.{◌≡◌, ◌*◌, ◌++◌, take, drop}
use Rattle.records.specs.Layout.{bytes16}
use Rattle.records.proofs.numbers.put_numbers.Given as goal

abbrev pub invariant-loop-i : goal.invariant-loop-i
invariant-loop-i l = l.out ≡ bytes16 (take l.i l.numbers) ++ drop (2 * l.i) l.initial.out
