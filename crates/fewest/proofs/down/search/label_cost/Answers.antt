-- A label leads to the state that the rule gives.
use Rattle.fewest.specs.inner.Rows.{label_cost}
use Rattle.fewest.proofs.down.search.label_cost.Goals as goal

pub returns : goal.returns
unfolding label_cost
returns c = rw c.rule.ensures at c.cost_by.ensures
