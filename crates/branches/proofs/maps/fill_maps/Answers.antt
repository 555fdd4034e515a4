-- The root's map and each node's are written.
use Rattle.std.proofs.Common.{◌-◌, length, arith}
use Rattle.branches.proofs.StepLoop.{args-pos}
use Rattle.branches.proofs.MapLoop.{row_in, map-above, map-args, map-iteration, map-root}
use Rattle.branches.proofs.maps.fill_maps.Goals as goal

pub overflow_sub-root : goal.overflow_sub-root
overflow_sub-root c = omega (arith, args-pos _ _ _ _ _ _ _ c.requires)

pub same_row-requires : goal.same_row-requires
same_row-requires c =
    record {
      room = row_in c.args.s c.args.n (c.args.n - 1) (length c.args.state_table.now)
          (omega (arith, args-pos _ _ _ _ _ _ _ c.requires)) c.requires.room;
      few = omega (arith, c.requires.few);
    }

pub loop-v-init : goal.loop-v-init
loop-v-init c =
    map-root _ _ _ _ _ _ _ c.requires (c.args.n - 1) c.args.state_table.now c.same_row.new.state_table
    (omega (arith, args-pos _ _ _ _ _ _ _ c.requires)) c.same_row.ensures

pub node_map-requires : goal.node_map-requires
node_map-requires c =
    let g = c.args in
    let l = c.loop-v in
    map-args _ _ _ _ _ _ _ c.requires (l.v - 1) g.state_table.now l.state_table
    (map-above _ _ _ _ _ _ _ c.requires l.v g.state_table.now l.state_table (omega arith) l.invariant)
    (omega arith) (omega (arith, l.auto.state_table, c.same_row.auto.state_table, c.requires.room))

pub loop-v-preserved : goal.loop-v-preserved
loop-v-preserved c =
    let g = c.args in
    let l = c.loop-v in
    map-iteration _ _ _ _ _ _ _ c.requires (l.v - 1) g.state_table.now l.state_table c.node_map.new.state_table
    (map-above _ _ _ _ _ _ _ c.requires l.v g.state_table.now l.state_table (omega arith) l.invariant)
    (omega arith) c.node_map.ensures
