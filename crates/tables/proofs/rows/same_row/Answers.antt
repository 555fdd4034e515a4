-- Each byte of the map is its own number: one byte more at each iteration.
use Rattle.std.proofs.Common.{arith, refl, ◌+◌, ◌*◌}
use Rattle.tables.proofs.MapRowLaws.{row-iteration}
use Rattle.tables.proofs.rows.same_row.Goals as goal

pub loop-q-preserved : goal.loop-q-preserved
loop-q-preserved c =
    let g = c.args in
    row-iteration g.s (λ x. x) g.v c.loop-q.q g.state_table.now c.loop-q.state_table c.loop-q.invariant
    (g.v * (g.s + 1) + 1 + c.loop-q.q) _ (omega arith) (omega arith) refl
