-- `inner_cell` meets its contract.
use Rattle.allowed.specs.inner.masks.Up.{inner_cell}
use native.Mathlib.Omega.{arith}
use Rattle.allowed.proofs.masks.up.inner_cell.Goals as goal

pub returns : goal.returns
unfolding inner_cell
returns c = omega (arith, c.rule-to.ensures)
