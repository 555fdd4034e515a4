-- The inner nodes passed are listed: one node more at each iteration.
use Rattle.std.proofs.Common.{arith}
use Rattle.tables.proofs.node_tables.InnerNodeLaws.{listed_start, listed-step}
use Rattle.tables.proofs.node_tables.blocks.list_inner.Goals as goal

pub loop-v-init : goal.loop-v-init
loop-v-init c = listed_start _ _ _

pub loop-v-preserved : goal.loop-v-preserved
loop-v-preserved c =
    let g = c.args in
    let l = c.loop-v in
    let s = c.requires in
    listed-step g.kinds.now g.b l.v l.c l.list l.invariant (omega (arith, l.invariant.few, s.fits)) (omega arith)
    (s.kinds l.v (omega (arith, s.inside)))
