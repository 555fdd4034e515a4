-- One number more, or-ed, and none left (ZeroLaws).
use Rattle.std.proofs.Common.{◌∙◌, sym, arith}
use Rattle.session.proofs.ZeroLaws.{zero-iteration, zero-end}
use Rattle.session.proofs.lists.zeros.Goals as goal

pub loop-x-preserved : goal.loop-x-preserved
loop-x-preserved c =
    let l = c.loop-x in
    zero-iteration c.args.xs.now l.x-index l.all (omega arith) ∙ l.invariant

pub returns : goal.returns
returns c =
    let l = c.loop-x in
    sym (zero-end c.args.xs.now l.x-index l.all (omega arith)) ∙ l.invariant
