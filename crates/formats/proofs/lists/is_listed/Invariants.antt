-- The running answer or that of the numbers to come is the answer for all.
use Rattle.std.proofs.Common.{◌≡◌, drop}
use Rattle.std.specs.Prelude.{◌||◌}
use Rattle.list_laws.specs.Tests.{holds}
use Rattle.formats.proofs.lists.is_listed.Given as goal

abbrev pub invariant-loop-u : goal.invariant-loop-u
invariant-loop-u l = (l.found || holds l.v (drop l.u-index l.nodes)) ≡ holds l.v l.nodes
