-- `check::branch_matches` meets its contract: the parts are the runs of plan and branch table.
use lib.ListN.{length}
use Rattle.branches.proofs.BranchInputs.{parts-filled, parts-in}
use Rattle.branches.proofs.check.branch_matches.Goals as goal

pub tables_match-requires : goal.tables_match-requires
tables_match-requires c =
    parts-filled c.args.plan.now c.args.branch.now c.args.n c.args.s c.args.k
    (length c.args.node_table.now)
    (length c.args.state_table.now) c.requires

pub returns : goal.returns
returns c =
    parts-in c.args.plan.now c.args.branch.now c.args.n c.args.s c.args.k
    (length c.args.node_table.now)
    (length c.args.state_table.now) c.requires
    c.args.node_table.now c.args.state_table.now c.tables_match.result c.tables_match.ensures
