-- `fill::write_branch_colours` meets its contract: the parts are the runs of plan and branch table.
use lib.ListN.{length}
use Rattle.colour_tables.proofs.branch.BuildLaws.{parts-filled, parts-written}
use Rattle.colour_tables.proofs.branch.fill.write_branch_colours.Goals as goal

pub fill_colours-requires : goal.fill_colours-requires
fill_colours-requires c =
    parts-filled c.args.plan.now c.args.branch.now c.args.n c.args.s c.args.k
    (length c.args.numbers.now)
    (length c.args.bytes.now) c.requires

pub returns : goal.returns
returns c =
    parts-written c.args.plan.now c.args.branch.now c.args.n c.args.s c.args.k
    (length c.args.numbers.now)
    (length c.args.bytes.now) c.requires
    c.args.numbers.now c.args.bytes.now c.fill_colours.new.numbers
    c.fill_colours.new.bytes
    c.fill_colours.ensures
