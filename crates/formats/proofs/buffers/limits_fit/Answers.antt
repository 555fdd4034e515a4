-- `limits_fit` meets its contract.
use native.Mathlib.Omega.{arith}
use mathlib.Core.Path.{sym, ◌∙◌}
use Rattle.formats.proofs.BufferLaws.{limits-none, limits-many, limits-end}
use Rattle.formats.proofs.buffers.limits_fit.Goals as goal

pub returns-then-n-lt1 : goal.returns-then-n-lt1
returns-then-n-lt1 c = let g = c.args in sym (limits-none g.n g.s g.k c.if-n-lt1.true)

pub returns-then-n-gt-NODE_LIMIT : goal.returns-then-n-gt-NODE_LIMIT
returns-then-n-gt-NODE_LIMIT c = let g = c.args in sym (limits-many g.n g.s g.k c.if-n-gt-NODE_LIMIT.true)

pub returns : goal.returns
returns c =
    let g = c.args in
    c.counts_fit.ensures ∙ sym (limits-end g.n g.s g.k (omega arith) (omega arith))
