-- The running answer and that of the numbers to come make the answer for all.
use Rattle.std.proofs.Common.{◌≡◌, drop}
use Rattle.std.specs.Prelude.{◌&&◌}
use Rattle.list_laws.specs.Tests.{all_below}
use Rattle.formats.proofs.lists.nodes_below.Given as goal

abbrev pub invariant-loop-v : goal.invariant-loop-v
invariant-loop-v l = (l.ok && all_below l.n (drop l.v-index l.nodes)) ≡ all_below l.n l.nodes
