-- The first record, one byte more, and all (CopyLaws).
use Rattle.std.proofs.Common.{arith}
use Rattle.capi_screens.proofs.CopyLaws.{copied-first, copied_on, copied_all}
use Rattle.capi_screens.proofs.load.copy_first.Goals as goal

pub loop-at-init : goal.loop-at-init
loop-at-init c = copied-first c.args.records.now

pub loop-at-preserved : goal.loop-at-preserved
loop-at-preserved c =
    let l = c.loop-at in
    copied_on c.args.records.now l.records l.at l.invariant (omega arith) (omega arith)

pub returns : goal.returns
returns c =
    let l = c.loop-at in
    copied_all c.args.records.now l.records c.requires (omega arith) (λ j h. l.invariant j (omega arith))
