-- Before the first state, and one state more.
use Rattle.std.proofs.Common.{◌∙◌, lit<}
use Rattle.colour_tables.proofs.sets.BitLaws.{image-start, image-next}
use Rattle.colour_tables.proofs.sets.bits.preimage.Goals as goal

pub loop-i-init : goal.loop-i-init
loop-i-init c = (image-start _, lit< tt)

pub loop-i-preserved : goal.loop-i-preserved
loop-i-preserved c = (
  c.with_bit-r.ensures.0
      ∙ image-next _ c.loop-i.i c.loop-i.r c.bit_of-b.result c.loop-i.invariant.0 c.bit_of-b.ensures.0,
  c.with_bit-r.ensures.1,
)
