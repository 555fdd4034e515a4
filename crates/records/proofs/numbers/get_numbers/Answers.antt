-- One number more, and none left (NumberLoop).
use Rattle.std.proofs.Common.{refl, arith}
use Rattle.records.specs.Layout.{numbers16}
use Rattle.records.proofs.NumberLoop.{get-iteration, get-end}
use Rattle.records.proofs.numbers.get_numbers.Goals as goal

pub loop-i-init : goal.loop-i-init
unfolding numbers16
loop-i-init c = refl

pub loop-i-preserved : goal.loop-i-preserved
loop-i-preserved c =
    let l = c.loop-i in
    get-iteration c.args.bytes.now c.args.out.now l.out l.i c.number16.result (omega arith) (omega arith)
    c.number16.ensures l.invariant

pub returns : goal.returns
returns c =
    let l = c.loop-i in
    get-end c.args.bytes.now c.args.out.now l.out l.i (omega arith) (omega arith) l.invariant
