-- One number more, and none left (RunLaws).
use Rattle.std.proofs.Common.{◌∙◌, ◌≡◌, ◌+◌, ◌-◌, length, sym, arith}
use Rattle.session.proofs.RunLaws.{rises-iteration, rises-end, rises-none}
use Rattle.session.proofs.lists.rises_to.Goals as goal

pub returns-then-xs-eq0 : goal.returns-then-xs-eq0
returns-then-xs-eq0 c = sym (rises-none _ _ c.if-xs-eq0.true)

pub loop-i-preserved : goal.loop-i-preserved
loop-i-preserved c =
    let l = c.loop-i in
    let e : l.i + 1 - 1 ≡ l.i = omega arith in
    rw e (rises-iteration c.args.last c.args.xs.now l.i (l.i - 1) (omega arith) l.ok (omega arith) ∙ l.invariant)

pub returns : goal.returns
returns c =
    let l = c.loop-i in
    let n = length c.args.xs.now in
    let e : l.i ≡ n = omega arith in
    sym (rises-end c.args.last c.args.xs.now n (n - 1) (omega arith) l.ok (omega arith) (omega arith))
    ∙ rw e at l.invariant
