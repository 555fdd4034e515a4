-- The flag compares the entries passed.
use Rattle.std.proofs.Common.{◌≡◌, eqb}
use Rattle.tables.specs.StateCells.{map_cell}
use Rattle.tables.specs.inner.Compare.{every, near_entry}
use Rattle.tables.proofs.compare.near_row_is.Given as goal

abbrev pub invariant-loop-q : goal.invariant-loop-q
invariant-loop-q l =
    l.same ≡ every l.q (λ x. eqb (map_cell l.s l.state_table l.v x) (near_entry l.table l.base l.stride x))
