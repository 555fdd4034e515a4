-- The flag is the comparison of the entries passed.
use Rattle.std.proofs.Common.{◌≡◌}
use Rattle.std.specs.Prelude.{eqb}
use Rattle.tables.specs.StateCells.{map_cell}
use Rattle.tables.specs.inner.Compare.{every}
use Rattle.branches.specs.inner.Maps.{step_cell}
use Rattle.branches.proofs.check_maps.step_row_is.Given as goal

abbrev pub invariant-loop-q : goal.invariant-loop-q
invariant-loop-q l =
    l.same ≡ every l.q (λ x. eqb (map_cell l.s l.state_table l.v x) (step_cell l.s l.state_table l.p l.j l.steps l.k l.a x))
