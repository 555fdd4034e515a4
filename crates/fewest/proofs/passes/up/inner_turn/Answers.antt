-- `inner_turn` meets its contract: the row is lowered, then copied.
use Prim.Native.Nat.{ℕ, ◌-◌}
use mathlib.Core.Path.{subst}
use Rattle.state_sets.specs.StateSets.{member}
use Rattle.fewest.specs.inner.Rows.{inner_costs}
use Rattle.fewest.specs.inner.passes.Cells.{cost_cell, left_within, RowDone}
use Rattle.fewest.proofs.passes.PutLoop.{row-filled}
use Rattle.fewest.proofs.passes.UpLoop.{costs-low}
use Rattle.fewest.proofs.passes.up.inner_turn.Goals as goal

pub returns : goal.returns
returns c =
    let g = c.args in
    let b = g.work.now in
    subst (λ (z : ℕ). RowDone g.s g.v z (inner_costs g.inner.now g.s g.k g.a (member g.labels)
    (cost_cell g.s b (left_within g.s b g.v)) (cost_cell g.s b (g.v - 1))) b c.put_row.new.work) c.inner_size-z.ensures
    (row-filled g.s g.v c.inner_size-z.result (inner_costs g.inner.now g.s g.k g.a (member g.labels)
    (cost_cell g.s b (left_within g.s b g.v)) (cost_cell g.s b (g.v - 1))) c.inner_row.new.row b c.put_row.new.work c.requires.0.few
    (costs-low g.inner.now g.s g.k g.a (member g.labels) (cost_cell g.s b (left_within g.s b g.v)) (cost_cell g.s b (g.v - 1)))
    c.inner_row.ensures c.put_row.ensures)
