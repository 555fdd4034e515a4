-- `next_row` meets its contract: the part that it hands on is the colour's table.
use Prim.Native.Nat.{ℕ, ◌+◌, ◌-◌, ◌*◌}
use mathlib.Core.Path.{◌≡◌, sym, ap, ap₂, ◌∙◌}
use mathlib.Core.List.{List}
use native.Mathlib.Omega.{arith}
use lib.ListN.{take, drop}
use Rattle.colour_tables.specs.ColourCells.{colour_part}
use Rattle.colour_tables.specs.forests.Rows.{row_below}
use Rattle.colour_tables.proofs.forests.RowCells.{next-root, next-below}
use Rattle.colour_tables.proofs.forests.rows.next_row.Goals as goal

pub returns-then-v-n : goal.returns-then-v-n
returns-then-v-n c =
    let g = c.args in
    sym (next-root g.nums.now g.n g.c g.v c.if-v-n.true)

pub returns : goal.returns
returns c =
    let part-is : let g = c.args in
    take (g.c * (g.n * 4) + g.n * 4 - g.c * (g.n * 4)) (drop (g.c * (g.n * 4)) g.nums.now)
    ≡ colour_part g.n g.c g.nums.now =
    (let g = c.args in
    let e : g.c * (g.n * 4) + g.n * 4 - g.c * (g.n * 4) ≡ g.n * 4 = omega arith in
    ap (λ (k : ℕ). take k (drop (g.c * (g.n * 4)) g.nums.now)) e) in
    let g = c.args in
    c.row_below.ensures
    ∙ ap₂ (λ (b : List ℕ) (p : ℕ). row_below b g.c g.v p) part-is c.parent_at-p.ensures
    ∙ sym (next-below g.nums.now g.n g.c g.v c.if-v-n.false)
