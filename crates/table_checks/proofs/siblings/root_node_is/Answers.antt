-- `siblings::root_node_is` meets its contract.
use mathlib.Core.Path.{refl}
use Rattle.table_checks.specs.inner.PairNodes.{root_node}
use Rattle.table_checks.proofs.siblings.root_node_is.Goals as goal

pub returns : goal.returns
unfolding root_node
returns c = refl
