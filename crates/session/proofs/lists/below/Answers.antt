-- One number more, and none left (LoopLaws).
use Rattle.std.proofs.Common.{◌∙◌, sym, arith}
use Rattle.list_laws.proofs.LoopLaws.{below-iteration, below_end}
use Rattle.session.proofs.lists.below.Goals as goal

pub loop-x-preserved : goal.loop-x-preserved
loop-x-preserved c =
    let l = c.loop-x in
    below-iteration c.args.xs.now l.x-index c.args.bound l.ok (omega arith) ∙ l.invariant

pub returns : goal.returns
returns c =
    let l = c.loop-x in
    sym (below_end c.args.xs.now l.x-index c.args.bound l.ok (omega arith)) ∙ l.invariant
