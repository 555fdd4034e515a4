-- `first_of` meets its contract.
use Rattle.allowed.proofs.clearing.UpLoop.{first-of-leaf, first-of-inner}
use Rattle.allowed.proofs.clearing.cells.first_of.Goals as goal

pub returns-then-kinds-u-eq0 : goal.returns-then-kinds-u-eq0
returns-then-kinds-u-eq0 c = first-of-leaf c.args.kinds.now c.args.cells.now c.args.u c.if-kinds-u-eq0.true

pub returns : goal.returns
returns c = first-of-inner c.args.kinds.now c.args.cells.now c.args.u c.if-kinds-u-eq0.false
