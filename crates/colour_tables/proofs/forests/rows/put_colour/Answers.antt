-- `put_colour` meets its contract.
use Prim.Native.Nat.{◌+◌, ◌*◌}
use mathlib.Core.Path.{sym, ap, ◌∙◌}
use native.Mathlib.Omega.{arith}
use Rattle.colour_tables.specs.declared.forests.rows.Row.{Row}
use Rattle.colour_tables.specs.forests.Rows.{put_row}
use Rattle.colour_tables.proofs.forests.RowCells.{colour-none, colour-put}
use Rattle.colour_tables.proofs.forests.rows.put_colour.Goals as goal

pub returns-then-c-lt1 : goal.returns-then-c-lt1
returns-then-c-lt1 c =
    let g = c.args in
    sym (colour-none g.nums.now g.n g.c g.v g.lands (omega (arith, c.if-c-lt1.true)))

pub returns : goal.returns
returns c =
    let g = c.args in
    c.put_row.ensures
    ∙ ap (λ (x : Row). put_row g.nums.now (g.c * (g.n * 4) + g.v * 4) x g.lands) c.next_row-row.ensures
    ∙ sym (colour-put g.nums.now g.n g.c g.v g.lands (omega (arith, c.if-c-lt1.false)))
