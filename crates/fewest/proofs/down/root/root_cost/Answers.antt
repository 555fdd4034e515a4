-- `root_cost` meets its contract.
use lib.ListN.{get_or}
use borrow.Author.Tests.{eq-eqb, ne_eqb}
use Rattle.fewest.specs.inner.down.Root.{root_cost}
use Rattle.fewest.proofs.down.root.root_cost.Goals as goal

pub returns-then-marks-j : goal.returns-then-marks-j
unfolding root_cost
returns-then-marks-j c =
    let g = c.args in
    rw (eq-eqb (get_or g.marks.now g.j 0) g.mark c.if-marks-j.true)

pub returns : goal.returns
unfolding root_cost
returns c =
    let g = c.args in
    rw (ne_eqb (get_or g.marks.now g.j 0) g.mark c.if-marks-j.false)
