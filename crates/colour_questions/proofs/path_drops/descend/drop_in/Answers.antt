-- `drop_in` meets its contract: the part that it hands on is the colour's table.
use Prim.Native.Nat.{ℕ, ◌+◌, ◌-◌, ◌*◌}
use mathlib.Core.Path.{◌≡◌, refl, sym, ap, ◌∙◌, subst}
use mathlib.Core.Bool.{Bool}
use mathlib.Core.List.{List}
use mathlib.Core.Option.{none, some}
use native.Mathlib.Omega.{arith}
use lib.ListN.{take, drop}
use Rattle.tables.specs.node_tables.Cells.{size_cell, cell_forest}
use Rattle.colours.specs.Descents.{seen_at}
use Rattle.colour_tables.specs.ColourCells.{colour_part}
use Rattle.colour_questions.specs.path_drops.Descended.{start_place}
use Rattle.colour_questions.specs.path_drops.inner.Drops.{DropDone}
use Rattle.colour_questions.proofs.path_drops.DescendLoop.{part_gives}
use Rattle.colour_questions.proofs.path_drops.descend.drop_in.Goals as goal

-- the part handed on
part-is : (n c : ℕ) (nums : List ℕ)
    → take (c * (n * 4) + n * 4 - c * (n * 4)) (drop (c * (n * 4)) nums) ≡ colour_part n c nums
part-is n c nums =
    let e : c * (n * 4) + n * 4 - c * (n * 4) ≡ n * 4 = omega arith in
    ap (λ (k : ℕ). take k (drop (c * (n * 4)) nums)) e

pub returns-then-top : goal.returns-then-top
returns-then-top c =
    let g = c.args in
    subst (λ (b : Bool). DropDone g.n g.nums.now g.c (start_place b g.z) g.l c.next_drop.result)
    (sym c.if-top.true)
    (part_gives g.n g.nums.now _ g.c none 0 g.l c.next_drop.result (part-is g.n g.c g.nums.now) refl
    c.next_drop.ensures)

pub returns : goal.returns
returns c =
    let g = c.args in
    subst (λ (b : Bool). DropDone g.n g.nums.now g.c (start_place b g.z) g.l c.next_drop-2.result)
    (sym c.if-top.false)
    (part_gives g.n g.nums.now _ g.c (some g.z) c.seen_at-seen.result g.l c.next_drop-2.result
    (part-is g.n g.c g.nums.now)
    (c.seen_at-seen.ensures.0
    ∙ ap (λ (p : List ℕ). seen_at (cell_forest g.n p) (size_cell p) g.c g.z) (part-is g.n g.c g.nums.now))
    c.next_drop-2.ensures)
