-- The first q bytes of the map are the table's, and no other byte is changed.
use Rattle.std.proofs.Common.{◌+◌, ◌*◌, get_or}
use Rattle.tables.specs.inner.Rows.{RowTo}
use Rattle.tables.proofs.rows.near_row.Given as goal

abbrev pub invariant-loop-q : goal.invariant-loop-q
invariant-loop-q l =
    RowTo l.s (λ x. get_or l.table (l.base + x * l.stride) 0) l.v l.q l.fn.state_table l.state_table
