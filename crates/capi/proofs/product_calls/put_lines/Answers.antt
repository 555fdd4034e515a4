-- None written, one line more, and all (LineLaws).
use Rattle.std.proofs.Common.{arith}
use Rattle.capi.proofs.product_calls.LineLaws.{lines_start, lines-call, lines_next, lines-done}
use Rattle.capi.proofs.product_calls.put_lines.Goals as goal

pub loop-i-init : goal.loop-i-init
loop-i-init c = let g = c.args in lines_start g.kinds g.labels g.lefts g.rights g.n g.lines.now c.requires

pub put_line-requires : goal.put_line-requires
put_line-requires c =
    let g = c.args in
    let l = c.loop-i in
    lines-call g.kinds g.labels g.lefts g.rights g.n g.lines.now l.lines l.i l.invariant (omega arith)

pub loop-i-preserved : goal.loop-i-preserved
loop-i-preserved c =
    let g = c.args in
    let l = c.loop-i in
    lines_next g.kinds g.labels g.lefts g.rights g.n g.lines.now l.lines l.i l.invariant (omega arith) _ c.put_line.ensures

pub returns : goal.returns
returns c =
    let g = c.args in
    let l = c.loop-i in
    lines-done g.kinds g.labels g.lefts g.rights g.n g.lines.now l.lines l.i l.invariant (omega arith)
