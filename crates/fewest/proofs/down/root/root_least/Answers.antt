-- Before the first state no state is had; one state more.
use Rattle.std.proofs.Common.{refl, ◌∙◌, add-one, arith}
use Rattle.fewest.specs.Least.{least_to}
use Rattle.fewest.proofs.down.root.root_least.Goals as goal

pub loop-j-init : goal.loop-j-init
unfolding least_to
loop-j-init c = refl

pub loop-j-preserved : goal.loop-j-preserved
unfolding least_to
loop-j-preserved c =
    rw (add-one c.loop-j.j) (c.min-r.ensures ∙ omega (arith, c.loop-j.invariant, c.root_cost-c.ensures))
