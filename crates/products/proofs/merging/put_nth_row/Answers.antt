-- A row of each table is handed on, and what is written of them is the row of the merged table.
use Rattle.std.proofs.Common.{◌∙◌, List, ℕ, ap}
use Rattle.products.specs.merging.Writes.{written}
use Rattle.products.proofs.merging.PartLaws.{first-end, second-end, nth-row, nth-is}
use Rattle.products.proofs.merging.put_nth_row.Goals as goal

pub slice_bounds-put_row-end : goal.slice_bounds-put_row-end
slice_bounds-put_row-end c =
    let g = c.args in
    first-end g.first.now g.second.now g.s1 g.s2 g.k g.r c.requires.inner c.requires.inside

pub slice_bounds-put_row-end-2 : goal.slice_bounds-put_row-end-2
slice_bounds-put_row-end-2 c =
    let g = c.args in
    second-end g.first.now g.second.now g.s1 g.s2 g.k g.r c.requires.inner c.requires.inside

pub put_row-requires : goal.put_row-requires
put_row-requires c =
    let g = c.args in
    nth-row g.first.now g.second.now g.s1 g.s2 g.k g.r c.requires.inner c.requires.inside g.at g.out.now c.requires.room

pub returns : goal.returns
returns c =
    let g = c.args in
    c.put_row.ensures
    ∙ ap (λ (x : List ℕ). written g.at x g.out.now)
    (nth-is g.first.now g.second.now g.s1 g.s2 g.k g.r c.requires.inner c.requires.inside)
