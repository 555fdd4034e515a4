-- Before the first cost nothing is copied; one cost more; then the size.
use Rattle.std.proofs.Common.{ℕ, ◌+◌, ◌*◌, ◌≡◌, subst, arith}
use Rattle.fewest.proofs.passes.PutLoop.{RowPart, part-start, part-next, part-done}
use Rattle.fewest.proofs.passes.cells.put_row.Goals as goal

pub loop-j-init : goal.loop-j-init
loop-j-init c = let g = c.args in part-start (g.v * (g.s + 1)) g.row.now g.work.now

pub loop-j-preserved : goal.loop-j-preserved
loop-j-preserved c =
    let g = c.args in
    let l = c.loop-j in
    part-next (g.v * (g.s + 1)) l.j g.row.now g.work.now l.work l.invariant (omega (arith, c.requires.room))

pub returns : goal.returns
returns c =
    let g = c.args in
    let l = c.loop-j in
    let e : l.j ≡ g.s = omega arith in
    part-done g.s g.v g.z g.row.now g.work.now l.work
    (subst (λ (i : ℕ). RowPart (g.v * (g.s + 1)) i g.row.now g.work.now l.work) e l.invariant) c.requires.room
