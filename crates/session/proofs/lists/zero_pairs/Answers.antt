-- One number and one byte more, or-ed, and none left (ZeroLaws).
use Rattle.std.proofs.Common.{◌∙◌, sym, arith}
use Rattle.session.proofs.ZeroLaws.{pairs-iteration, pairs_end}
use Rattle.session.proofs.lists.zero_pairs.Goals as goal

pub loop-i-preserved : goal.loop-i-preserved
loop-i-preserved c =
    let l = c.loop-i in
    pairs-iteration c.args.xs.now c.args.ys.now l.i l.all (omega arith) (omega arith) ∙ l.invariant

pub returns : goal.returns
returns c =
    let l = c.loop-i in
    sym (pairs_end c.args.xs.now c.args.ys.now l.i l.all (omega arith) (omega arith)) ∙ l.invariant
