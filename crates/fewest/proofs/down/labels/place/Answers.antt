-- `place` meets its contract.
use mathlib.Core.Path.{refl}
use Rattle.fewest.specs.inner.down.Down.{placed}
use Rattle.fewest.proofs.down.labels.place.Goals as goal

pub returns : goal.returns
unfolding placed
returns c =
    refl
