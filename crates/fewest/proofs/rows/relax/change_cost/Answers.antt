-- A shift and a mask tell whether label b is permitted.
use native.Mathlib.Omega.{arith}
use borrow.Author.Tests.{eq-eqb, ne_eqb}
use Rattle.fewest.proofs.rows.RowLaws.{cost-yes, cost-no}
use Rattle.fewest.proofs.rows.relax.change_cost.Goals as goal

pub returns-then-a-b : goal.returns-then-a-b
returns-then-a-b c = let g = c.args in (rw (eq-eqb g.a g.b c.if-a-b.true), omega arith)

pub returns-then-labels-b-eq1 : goal.returns-then-labels-b-eq1
returns-then-labels-b-eq1 c = let g = c.args in
    (rw (ne_eqb g.a g.b c.if-a-b.false) (cost-yes g.labels g.b 1 c.if-labels-b-eq1.true), omega arith)

pub returns : goal.returns
returns c = let g = c.args in
    (rw (ne_eqb g.a g.b c.if-a-b.false) (cost-no g.labels g.b 1 c.if-labels-b-eq1.false), omega arith)
