-- The costs of the states below j are lowered.
use Rattle.std.proofs.Common.{cond}
use Rattle.state_sets.specs.StateSets.{member}
use Rattle.fewest.specs.Least.{no_way_out}
use Rattle.fewest.proofs.rows.ImageLaws.{LoweredTo}
use Rattle.fewest.proofs.rows.images.lower_set.Given as goal

abbrev pub invariant-loop-j : goal.invariant-loop-j
invariant-loop-j l =
    LoweredTo (λ i. cond (member l.states i) l.c no_way_out) l.j l.initial.row l.row
