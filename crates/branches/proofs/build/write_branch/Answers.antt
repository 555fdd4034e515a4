-- `build::write_branch` meets its contract: the parts are the runs of plan and branch table.
use lib.ListN.{length}
use Rattle.branches.proofs.BranchInputs.{parts-filled, parts-written}
use Rattle.branches.proofs.build.write_branch.Goals as goal

pub fill_branch-requires : goal.fill_branch-requires
fill_branch-requires c =
    parts-filled c.args.plan.now c.args.branch.now c.args.n c.args.s c.args.k
    (length c.args.node_table.now)
    (length c.args.state_table.now) c.requires

pub returns : goal.returns
returns c =
    parts-written c.args.plan.now c.args.branch.now c.args.n c.args.s c.args.k
    (length c.args.node_table.now)
    (length c.args.state_table.now) c.requires
    c.args.node_table.now c.args.state_table.now c.fill_branch.new.node_table
    c.fill_branch.new.state_table
    c.fill_branch.ensures
