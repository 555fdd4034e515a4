-- What an iteration reads is inside the lists, and what it writes is one entry more of both maps.
use Rattle.std.proofs.Common.{arith, length-set}
use Rattle.tables.specs.inner.Rows.{far_cell}
use Rattle.tables.proofs.PairLoop.{pair-iteration, far-turn}
use Rattle.tables.proofs.pair_rows.far_pair.Goals as goal

pub bounds-state_table-near : goal.bounds-state_table-near
bounds-state_table-near c =
    let g = c.args in
    let t = far-turn g.s g.v g.j g.right g.left c.loop-q.q g.table.now g.row g.col g.step g.state_table.now
    c.loop-q.state_table c.loop-q.invariant c.requires (omega arith) in
    omega (arith, t.right-here, c.requires.right.near_room)

pub bounds-state_table-far : goal.bounds-state_table-far
bounds-state_table-far c =
    let g = c.args in
    let t = far-turn g.s g.v g.j g.right g.left c.loop-q.q g.table.now g.row g.col g.step g.state_table.now
    c.loop-q.state_table c.loop-q.invariant c.requires (omega arith) in
    omega (arith, t.right_near, c.requires.right.far_room)

pub bounds-state_table-far-in-loop-q : goal.bounds-state_table-far-in-loop-q
bounds-state_table-far-in-loop-q c =
    let g = c.args in
    let t = far-turn g.s g.v g.j g.right g.left c.loop-q.q g.table.now g.row g.col g.step g.state_table.now
    c.loop-q.state_table c.loop-q.invariant c.requires (omega arith) in
    simp length-set (omega (arith, t.left_near, c.requires.left.far_room))

pub loop-q-preserved : goal.loop-q-preserved
loop-q-preserved c =
    let g = c.args in
    let t = far-turn g.s g.v g.j g.right g.left c.loop-q.q g.table.now g.row g.col g.step g.state_table.now
    c.loop-q.state_table c.loop-q.invariant c.requires (omega arith) in
    pair-iteration g.s (far_cell g.s g.state_table.now g.v g.j g.table.now g.row 1)
    (far_cell g.s g.state_table.now g.v g.j g.table.now g.col g.step) g.right g.left c.loop-q.q g.state_table.now
    c.loop-q.state_table c.loop-q.invariant c.requires.apart (omega arith) _ _ (omega (arith, c.requires.right.room))
    (omega (arith, c.requires.left.room)) t.right_is t.left_is
