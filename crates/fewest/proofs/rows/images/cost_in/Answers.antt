-- A shift and a mask tell whether state j is in the set.
use Rattle.fewest.proofs.rows.RowLaws.{cost-yes, cost-no}
use Rattle.fewest.proofs.rows.images.cost_in.Goals as goal

pub returns-then-states-j-eq1 : goal.returns-then-states-j-eq1
returns-then-states-j-eq1 c = let g = c.args in cost-yes g.states g.j g.c c.if-states-j-eq1.true

pub returns : goal.returns
returns c = let g = c.args in cost-no g.states g.j g.c c.if-states-j-eq1.false
