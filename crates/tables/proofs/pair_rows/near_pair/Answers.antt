-- In the first arm there are 16 states.
use Rattle.std.proofs.Common.{get_or, subst, sym, ℕ, ◌*◌, ◌+◌}
use Rattle.tables.specs.inner.MapPairs.{PairRowed}
use Rattle.tables.proofs.pair_rows.near_pair.Goals as goal

pub returns-then-s-eq16 : goal.returns-then-s-eq16
returns-then-s-eq16 c =
    let g = c.args in
    subst (λ (x : ℕ). PairRowed x (λ q. get_or g.table.now (g.row + q * 1) 0)
    (λ q. get_or g.table.now (g.col + q * g.step) 0) g.right g.left g.state_table.now c.near_rows16.new.state_table)
    (sym c.if-s-eq16.true) c.near_rows16.ensures
