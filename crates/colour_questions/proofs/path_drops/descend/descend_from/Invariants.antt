-- At each iteration the rest of the way gives the whole descent's answer. The colour falls.
use Rattle.colour_questions.specs.path_drops.Descended.{start_place}
use Rattle.colour_questions.proofs.path_drops.DescendLoop.{Descends}
use Rattle.colour_questions.proofs.path_drops.descend.descend_from.Given as goal

abbrev pub invariant-loop-colour : goal.invariant-loop-colour
invariant-loop-colour l = Descends l.n l.nums (start_place l.top l.z) l.l l.c l.colour l.above l.at l.drops l.links

abbrev pub decreases-loop-colour : goal.decreases-loop-colour
decreases-loop-colour l = l.colour
