-- The byte is 0 exactly where the entries passed are the same.
use Rattle.std.proofs.Common.{◌≡◌, eqb}
use Rattle.tables.specs.StateCells.{map_cell}
use Rattle.tables.specs.inner.Compare.{every, near_entry}
use Rattle.table_checks.proofs.differences.near_differences.Given as goal

abbrev pub invariant-loop-q : goal.invariant-loop-q
invariant-loop-q l =
    eqb l.bad 0 ≡ every l.q (λ x. eqb (map_cell l.s l.state_table l.v x) (near_entry l.table l.base l.stride x))
