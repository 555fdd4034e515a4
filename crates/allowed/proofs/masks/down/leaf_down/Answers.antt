-- `leaf_down` meets its contract.
use mathlib.Core.Path.{ap}
use lib.ListN.{set}
use Rattle.allowed.specs.inner.masks.Down.{leaf_down}
use Rattle.allowed.proofs.masks.down.leaf_down.Goals as goal

pub returns : goal.returns
unfolding leaf_down
returns c = let g = c.args in ap (set g.cells.now g.v) c.gathered-m.ensures
