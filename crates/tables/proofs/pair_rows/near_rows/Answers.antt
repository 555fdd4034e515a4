-- The right row, then the left one.
use Rattle.std.proofs.Common.{get_or, ◌+◌, ◌*◌}
use Rattle.tables.proofs.PairMaps.{pair-rowed}
use Rattle.tables.proofs.pair_rows.near_rows.Goals as goal

pub returns : goal.returns
returns c =
    let g = c.args in
    pair-rowed g.s (λ q. get_or g.table.now (g.row + q * 1) 0) (λ q. get_or g.table.now (g.col + q * g.step) 0)
    g.right g.left g.state_table.now c.near_row.new.state_table c.near_row-2.new.state_table c.requires.apart
    c.near_row.ensures c.near_row-2.ensures
