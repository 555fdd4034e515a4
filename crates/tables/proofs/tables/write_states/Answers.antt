-- `tables::write_states` meets its contract.
use Rattle.std.proofs.Common.{arith}
use Rattle.tables.proofs.TableLoop.{map-args, states-over}
use Rattle.tables.proofs.tables.write_states.Goals as goal

pub fill_maps-requires : goal.fill_maps-requires
fill_maps-requires c =
    map-args c.args.kinds.now c.args.labels.now c.args.node_table.now c.args.leaves.now
    c.args.inner.now c.args.s c.args.k
    c.args.state_table.now c.run_states.new.state_table c.requires c.run_states.ensures (omega arith)

pub returns : goal.returns
returns c =
    states-over c.args.kinds.now c.args.labels.now c.args.node_table.now c.args.leaves.now
    c.args.inner.now c.args.s c.args.k
    c.args.state_table.now c.run_states.new.state_table c.requires c.run_states.ensures
    c.fill_maps.new.state_table (omega arith) c.fill_maps.ensures
