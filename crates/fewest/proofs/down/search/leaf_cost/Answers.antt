-- A label of a leaf leads to the state that the rules give it.
use Rattle.std.proofs.Common.{zero-add}
use Rattle.fewest.specs.inner.Rows.{leaf_cost}
use Rattle.fewest.proofs.down.search.leaf_cost.Goals as goal

pub returns : goal.returns
unfolding leaf_cost
returns c = simp zero-add at c.cost_by.ensures
