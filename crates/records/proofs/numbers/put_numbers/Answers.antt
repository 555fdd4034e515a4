-- One number more, and none left (NumberLoop).
use Rattle.std.proofs.Common.{◌<◌, refl, get_or, arith}
use Rattle.records.specs.Layout.{bytes16}
use Rattle.records.proofs.NumberLoop.{put-iteration, put-end}
use Rattle.records.proofs.numbers.put_numbers.Goals as goal

pub loop-i-init : goal.loop-i-init
unfolding bytes16
loop-i-init c = refl

pub loop-i-preserved : goal.loop-i-preserved
loop-i-preserved c =
    let l = c.loop-i in
    let x : get_or c.args.numbers.now l.i 0 < 65536 = omega (arith, c.type_inv.numbers l.i) in
    put-iteration c.args.numbers.now c.args.out.now l.out l.i _ _ (omega arith) (omega arith) refl (omega arith) l.invariant

pub returns : goal.returns
returns c =
    let l = c.loop-i in
    put-end c.args.numbers.now c.args.out.now l.out l.i (omega arith) (omega arith) l.invariant
