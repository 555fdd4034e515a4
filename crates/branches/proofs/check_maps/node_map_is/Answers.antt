-- `check_maps::node_map_is` meets its contract, by near_row_is or by step_row_is.
use mathlib.Core.Path.{sym, ◌∙◌}
use lib.ListN.{get_or}
use Rattle.tables.specs.node_tables.Cells.{parent_cell, jump_cell}
use Rattle.tables.specs.inner.Compare.{near_entry}
use Rattle.tables.proofs.CompareLaws.{row_equals-ext}
use Rattle.branches.specs.inner.Maps.{step_cell, node_map}
use Rattle.branches.proofs.MapLoop.{node_map-near, node_map-far}
use Rattle.branches.proofs.check_maps.node_map_is.Goals as goal

pub returns-then-j-p : goal.returns-then-j-p
returns-then-j-p c =
    let g = c.args in
    c.near_row_is.ensures
    ∙ row_equals-ext g.s g.state_table.now g.v (near_entry g.steps.now (get_or g.labels.now g.v 0) g.k)
    (node_map g.labels.now g.node_table.now g.steps.now g.s g.k g.state_table.now g.v)
    (λ q l. sym (node_map-near g.labels.now g.node_table.now g.steps.now g.s g.k g.state_table.now g.v q
    c.if-j-p.true))

pub returns : goal.returns
returns c =
    let g = c.args in
    let p = parent_cell g.node_table.now g.v in
    c.step_row_is.ensures
    ∙ row_equals-ext g.s g.state_table.now g.v
    (step_cell g.s g.state_table.now p (jump_cell g.node_table.now p) g.steps.now g.k
    (get_or g.labels.now g.v 0))
    (node_map g.labels.now g.node_table.now g.steps.now g.s g.k g.state_table.now g.v)
    (λ q l. sym (node_map-far g.labels.now g.node_table.now g.steps.now g.s g.k g.state_table.now g.v q
    c.if-j-p.false))
