-- The running answer and that of the run from the number before make the answer for all.
use Rattle.std.proofs.Common.{◌≡◌, ◌&&◌, ◌-◌, drop}
use Rattle.session.specs.Records.{rises_to}
use Rattle.session.proofs.lists.rises_to.Given as goal

abbrev pub invariant-loop-i : goal.invariant-loop-i
invariant-loop-i l = (l.ok && rises_to l.last (drop (l.i - 1) l.xs)) ≡ rises_to l.last l.xs
