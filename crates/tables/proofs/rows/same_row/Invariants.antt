-- The first q bytes of the map are their own numbers, and no other byte is changed.
use Rattle.tables.specs.inner.Rows.{RowTo}
use Rattle.tables.proofs.rows.same_row.Given as goal

abbrev pub invariant-loop-q : goal.invariant-loop-q
invariant-loop-q l = RowTo l.s (λ x. x) l.v l.q l.fn.state_table l.state_table
