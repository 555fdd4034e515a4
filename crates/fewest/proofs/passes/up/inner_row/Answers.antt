-- `inner_row` meets its contract: the children's rows are handed on as parts.
use Prim.Native.Nat.{◌+◌, ◌-◌, ◌*◌}
use Rattle.state_sets.specs.StateSets.{member}
use Rattle.fewest.specs.inner.Rows.{left_cost, inner_costs}
use Rattle.fewest.specs.inner.passes.Cells.{cost_cell, left_within}
use Rattle.fewest.proofs.passes.UpLoop.{part, parts-costs, relaxed-as}
use Rattle.fewest.proofs.passes.up.inner_row.Goals as goal

pub returns : goal.returns
returns c =
    let g = c.args in
    let b = g.work.now in
    let x = left_within g.s b g.v * (g.s + 1) + 1 in
    let y = (g.v - 1) * (g.s + 1) + 1 in
    relaxed-as g.s (left_cost g.inner.now g.s g.k g.a (member g.labels) (part g.s b x) (part g.s b y))
    (inner_costs g.inner.now g.s g.k g.a (member g.labels) (cost_cell g.s b (left_within g.s b g.v))
    (cost_cell g.s b (g.v - 1))) g.row.now c.relax_left.new.row
    (parts-costs g.inner.now g.s g.k g.a (member g.labels) b x y) c.relax_left.ensures
