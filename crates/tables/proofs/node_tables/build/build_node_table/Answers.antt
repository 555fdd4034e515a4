-- The pass up, then the pass down.
use Rattle.std.proofs.Common.{arith, length}
use Rattle.tables.specs.node_tables.Cells.{NodeTableArgs}
use Rattle.tables.proofs.node_tables.CellLaws.{down-args, passes}
use Rattle.tables.proofs.node_tables.build.build_node_table.Goals as goal

pub write_down-requires : goal.write_down-requires
write_down-requires c =
    let args : NodeTableArgs c.args.kinds.now (length c.write_up.new.node_table) = record {
      postorder = c.requires.postorder;
      most = c.requires.most;
      room = omega arith;
    } in (
      down-args c.args.kinds.now c.write_up.new.node_table args (λ t e. (c.write_up.ensures t e).cells),
      c.jump_lengths-lengths.ensures,
    )

pub returns : goal.returns
returns c =
    passes c.args.kinds.now c.args.node_table.now c.write_up.new.node_table c.write_down.new.node_table (omega arith)
    c.requires.room c.write_up.ensures c.write_down.ensures
