-- The set has the states that the labels below b give.
use Rattle.fewest.proofs.rows.ImageLaws.{ImageTo}
use Rattle.fewest.proofs.rows.images.image_of.Given as goal

abbrev pub invariant-loop-b : goal.invariant-loop-b
invariant-loop-b l =
    ImageTo l.inner l.s l.k l.p l.q l.b l.r
