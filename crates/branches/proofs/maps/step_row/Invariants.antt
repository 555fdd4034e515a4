-- The first q bytes of the map are composed, no other byte is changed.
use Rattle.tables.specs.inner.Rows.{RowTo}
use Rattle.branches.specs.inner.Maps.{step_cell}
use Rattle.branches.proofs.maps.step_row.Given as goal

abbrev pub invariant-loop-q : goal.invariant-loop-q
invariant-loop-q l =
    RowTo l.s (step_cell l.s l.initial.state_table l.p l.j l.steps l.k l.a) l.v l.q l.initial.state_table l.state_table
