-- No entry, and one more.
use Rattle.tables.specs.StateCells.{map_cell}
use Rattle.table_checks.specs.inner.PairStates.{far_entry}
use Rattle.table_checks.proofs.DifferenceLaws.{more_test, every-none}
use Rattle.table_checks.proofs.differences.far_differences.Goals as goal

pub loop-q-init : goal.loop-q-init
loop-q-init c = every-none _

pub loop-q-preserved : goal.loop-q-preserved
loop-q-preserved c =
    let g = c.args in
    more_test c.loop-q.bad c.loop-q.q (map_cell g.s g.state_table.now g.v)
    (far_entry g.s g.state_table.now g.p g.j g.table.now g.base g.stride) c.loop-q.invariant
