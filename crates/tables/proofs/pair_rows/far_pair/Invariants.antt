-- The first q bytes of both maps are the table's taken on by the maps of v and j, and no other byte is changed.
use Rattle.tables.specs.inner.Rows.{far_cell}
use Rattle.tables.specs.inner.MapPairs.{PairTo}
use Rattle.tables.proofs.pair_rows.far_pair.Given as goal

abbrev pub invariant-loop-q : goal.invariant-loop-q
invariant-loop-q l =
    PairTo l.s (far_cell l.s l.fn.state_table l.v l.j l.table l.row 1)
    (far_cell l.s l.fn.state_table l.v l.j l.table l.col l.step) l.right l.left l.q l.fn.state_table l.state_table
