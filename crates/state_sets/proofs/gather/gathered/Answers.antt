-- `gathered` meets its contract.
use Rattle.std.proofs.Common.{◌∙◌, lit<}
use Rattle.state_sets.proofs.BitLaws.{gather-start, gather-next}
use Rattle.state_sets.proofs.gather.gathered.Goals as goal

pub loop-i-init : goal.loop-i-init
loop-i-init c = let g = c.args in (gather-start g.table.now g.base g.stride g.set, lit< tt)

pub loop-i-preserved : goal.loop-i-preserved
loop-i-preserved c =
    let g = c.args in (
      c.with_bit-r.ensures.0
          ∙ gather-next g.table.now g.base g.stride g.set c.loop-i.i c.loop-i.r c.bit_of-b.result
          c.loop-i.invariant.0 c.bit_of-b.ensures.0,
      c.with_bit-r.ensures.1,
    )
