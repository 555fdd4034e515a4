-- Each byte of the map is the table's: one byte more at each iteration.
use Rattle.std.proofs.Common.{arith, refl, subst, get_or, ℕ, ◌+◌, ◌*◌, ◌≡◌}
use Rattle.tables.specs.inner.Rows.{RowTo}
use Rattle.tables.proofs.MapRowLaws.{row-iteration}
use Rattle.tables.proofs.rows.near_row.Goals as goal

pub loop-q-preserved : goal.loop-q-preserved
loop-q-preserved c =
    let g = c.args in
    row-iteration g.s (λ x. get_or g.table.now (g.base + x * g.stride) 0) g.v c.loop-q.q g.state_table.now
    c.loop-q.state_table c.loop-q.invariant (g.v * (g.s + 1) + 1 + c.loop-q.q) _ (omega arith) (omega arith) refl

pub returns : goal.returns
returns c =
    let g = c.args in
    let e : c.loop-q.q ≡ g.s = omega arith in
    subst (λ (i : ℕ). RowTo g.s (λ x. get_or g.table.now (g.base + x * g.stride) 0) g.v i g.state_table.now
    c.loop-q.state_table) e c.loop-q.invariant
