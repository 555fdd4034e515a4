-- r is the preimage among the first i states.
use Rattle.std.proofs.Common.{◌≡◌, ◌^◌, ◌<◌, get_or}
use Rattle.colours.specs.StateSets.{set_of, member}
use Rattle.colour_tables.proofs.sets.bits.preimage.Given as goal

abbrev pub invariant-loop-i : goal.invariant-loop-i
invariant-loop-i l = (l.r ≡ set_of l.i (λ x. member l.t (get_or l.above x 0))) × (l.r < 2 ^ l.i)
