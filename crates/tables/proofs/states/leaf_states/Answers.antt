-- Each node has its state as a leaf: one node more at each iteration.
use Rattle.std.proofs.Common.{arith, length, ◌+◌, ◌<◌}
use Rattle.list_laws.proofs.RowLaws.{stride}
use Rattle.tables.proofs.StateLoop.{leaves-step}
use Rattle.tables.proofs.states.leaf_states.Goals as goal

pub loop-v-preserved : goal.loop-v-preserved
loop-v-preserved c =
    let g = c.args in
    let s = c.requires in
    let h : c.loop-v.v < length g.labels.now = omega (arith, s.inside) in
    leaves-step g.s g.leaves.now g.labels.now g.b c.loop-v.v g.state_table.now c.loop-v.state_table (omega arith)
    (omega (arith, stride (g.s + 1) c.loop-v.v (length g.labels.now) h, s.room)) c.loop-v.invariant
