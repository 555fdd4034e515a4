-- The answer for all is that for the numbers to come.
use Rattle.std.proofs.Common.{◌≡◌, drop}
use Rattle.list_laws.specs.Tests.{distinct}
use Rattle.formats.proofs.lists.all_distinct.Given as goal

abbrev pub invariant-loop-i : goal.invariant-loop-i
invariant-loop-i l = distinct (drop l.i l.nodes) ≡ distinct l.nodes
