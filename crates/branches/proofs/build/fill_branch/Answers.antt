-- `build::fill_branch` meets its contract: its three writers, one after the other.
use mathlib.Core.Path.{refl, ◌∙◌}
use Rattle.branches.proofs.FillLaws.{fill-link-args, fill-branch-args, filled}
use Rattle.branches.proofs.build.fill_branch.Goals as goal

pub build_node_table-requires : goal.build_node_table-requires
build_node_table-requires c = fill-link-args _ _ _ _ _ _ _ c.requires

pub fill_steps-requires : goal.fill_steps-requires
fill_steps-requires c =
    let b = c.build_node_table in
    fill-branch-args _ _ _ _ _ _ _ c.requires c.args.node_table.now b.new.node_table b.ensures b.auto.node_table

pub fill_maps-requires : goal.fill_maps-requires
fill_maps-requires c =
    let f = c.fill_steps in
    let b = c.build_node_table in
    rw f.auto.state_table
    (fill-branch-args _ _ _ _ _ _ _ c.requires c.args.node_table.now b.new.node_table b.ensures b.auto.node_table)

pub returns : goal.returns
returns c =
    let m = c.fill_maps in
    let f = c.fill_steps in
    let b = c.build_node_table in
    filled _ _ _ _ _ _ _ c.requires c.args.node_table.now b.new.node_table b.ensures c.args.state_table.now
    f.new.state_table m.new.state_table refl
    (m.auto.state_table ∙ f.auto.state_table)
    f.ensures m.ensures
