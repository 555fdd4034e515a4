-- `stock` meets its contract.
use lib.ListN.{length}
use borrow.Author.Tests.{eq-eqb, ne_eqb}
use Rattle.fewest.specs.Relabelling.{stock_of}
use Rattle.fewest.proofs.passes.cells.stock.Goals as goal

pub returns-then-may-eq0 : goal.returns-then-may-eq0
unfolding stock_of
returns-then-may-eq0 c = rw (eq-eqb (length c.args.may.now) 0 c.if-may-eq0.true)

pub returns : goal.returns
unfolding stock_of
returns c = rw (ne_eqb (length c.args.may.now) 0 c.if-may-eq0.false)
