-- The states read first are the table's.
use Rattle.std.proofs.Common.{refl, get_or, ◌+◌, ◌*◌}
use Rattle.tables.proofs.PairMaps.{pair-rowed, pair-ext}
use Rattle.tables.proofs.PairLoop.{line-entry}
use Rattle.tables.proofs.pair_rows.near_rows16.Goals as goal

pub returns : goal.returns
returns c =
    let g = c.args in
    let x = c.sixteen-line in
    pair-ext 16 (λ q. get_or x.result (0 + q * 1) 0) (λ q. get_or g.table.now (g.row + q * 1) 0)
    (λ q. get_or g.table.now (g.col + q * g.step) 0) (λ q. get_or g.table.now (g.col + q * g.step) 0)
    g.right g.left g.state_table.now c.near_row-2.new.state_table
    (λ q h. line-entry x.result g.table.now g.row q (x.ensures.1 q h)) (λ q h. refl)
    (pair-rowed 16 (λ q. get_or x.result (0 + q * 1) 0) (λ q. get_or g.table.now (g.col + q * g.step) 0) g.right g.left
    g.state_table.now c.near_row.new.state_table c.near_row-2.new.state_table c.requires.apart c.near_row.ensures
    c.near_row-2.ensures)
