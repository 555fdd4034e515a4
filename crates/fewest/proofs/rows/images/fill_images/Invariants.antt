-- The sets of the pairs below i are written.
use Rattle.std.proofs.Common.{◌≡◌, length}
use Rattle.fewest.proofs.rows.ImageLaws.{FilledTo}
use Rattle.fewest.proofs.rows.images.fill_images.Given as goal

abbrev pub invariant-loop-i : goal.invariant-loop-i
invariant-loop-i l =
    (length l.images ≡ length l.initial.images) × FilledTo l.inner l.s l.k l.i l.images
