-- `changes::differing::none_left` meets its contract.
use mathlib.Core.Path.{refl}
use Rattle.changes.specs.LayOver.{padded}
use Rattle.changes.proofs.differing.none_left.Goals as goal

pub returns : goal.returns
unfolding padded
returns c = refl
