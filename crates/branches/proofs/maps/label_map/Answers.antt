-- `maps::label_map` meets its contract, by near_row or by step_row.
use Prim.Native.Nat.{◌+◌, ◌*◌}
use mathlib.Core.Path.{sym}
use lib.ListN.{get_or}
use Rattle.tables.specs.node_tables.Cells.{parent_cell, jump_cell}
use Rattle.tables.proofs.MapTableLaws.{row-ext}
use Rattle.branches.specs.inner.Maps.{step_cell, node_map}
use Rattle.branches.proofs.MapLoop.{node_map-near, node_map-far}
use Rattle.branches.proofs.maps.label_map.Goals as goal

pub returns-then-j-p : goal.returns-then-j-p
returns-then-j-p c =
    let g = c.args in
    row-ext g.s (λ q. get_or g.steps.now (get_or g.labels.now g.v 0 + q * g.k) 0)
    (node_map g.labels.now g.node_table.now g.steps.now g.s g.k g.state_table.now g.v) g.v g.s
    g.state_table.now
    c.near_row.new.state_table c.near_row.ensures
    (λ q l. sym (node_map-near g.labels.now g.node_table.now g.steps.now g.s g.k g.state_table.now g.v q
    c.if-j-p.true))

pub returns-else-j-p : goal.returns-else-j-p
returns-else-j-p c =
    let g = c.args in
    let p = parent_cell g.node_table.now g.v in
    row-ext g.s
    (step_cell g.s g.state_table.now p (jump_cell g.node_table.now p) g.steps.now g.k
    (get_or g.labels.now g.v 0))
    (node_map g.labels.now g.node_table.now g.steps.now g.s g.k g.state_table.now g.v) g.v g.s
    g.state_table.now
    c.step_row.new.state_table c.step_row.ensures
    (λ q l. sym (node_map-far g.labels.now g.node_table.now g.steps.now g.s g.k g.state_table.now g.v q
    c.if-j-p.false))
