-- `whatif_agree` meets its contract: each way out cites its law (ExportLaws).
use Rattle.std.proofs.Common.{refl, arith}
use Rattle.capi.proofs.product_calls.ExportLaws.{count_most, lines-args, refused-exported, short-exported, agree-exported}
use Rattle.capi.proofs.product_calls.whatif_agree.Goals as goal

pub returns-in-Err : goal.returns-in-Err
returns-in-Err c =
    let g = c.args in
    refused-exported g.first.now g.second.now c.in-Err.refusal (rw c.in-Err.is at c.agree.ensures)
    g.lines.now g.agreed.now g.count.now c.number.result c.number.ensures

pub overflow_mul-n : goal.overflow_mul-n
overflow_mul-n c =
    let g = c.args in
    omega (arith, count_most g.first.now g.second.now c.in-Ok.reply (rw c.in-Ok.is at c.agree.ensures))

pub returns-then-lines-n : goal.returns-then-lines-n
returns-then-lines-n c =
    let g = c.args in
    short-exported g.first.now g.second.now c.in-Ok.reply (rw c.in-Ok.is at c.agree.ensures)
    g.lines.now g.agreed.now g.count.now c.number-then-lines-n.result c.number-then-lines-n.ensures c.if-lines-n.true

pub put_lines-requires : goal.put_lines-requires
put_lines-requires c =
    let g = c.args in
    lines-args g.first.now g.second.now c.in-Ok.reply (rw c.in-Ok.is at c.agree.ensures)
    g.lines.now (omega (arith, c.if-lines-n.false))

pub overflow_cast-count : goal.overflow_cast-count
overflow_cast-count c =
    let g = c.args in
    omega (arith, count_most g.first.now g.second.now c.in-Ok.reply (rw c.in-Ok.is at c.agree.ensures))

pub returns : goal.returns
returns c =
    let g = c.args in
    agree-exported g.first.now g.second.now c.in-Ok.reply (rw c.in-Ok.is at c.agree.ensures)
    g.lines.now g.agreed.now g.count.now (omega (arith, c.if-lines-n.false)) _ _ _
    c.put_lines.ensures c.none_shown.ensures refl
