-- What an iteration reads is inside, and it writes the state wanted.
use Rattle.std.proofs.Common.{refl, ◌+◌, ◌*◌, arith}
use Rattle.tables.proofs.MapRowLaws.{row-iteration}
use Rattle.branches.specs.inner.Maps.{step_cell}
use Rattle.branches.proofs.StepRowLoop.{step-far-below, step-inside, step_is}
use Rattle.branches.proofs.maps.step_row.Goals as goal

pub bounds-state_table-near : goal.bounds-state_table-near
bounds-state_table-near c =
    let g = c.args in
    let l = c.loop-q in
    omega (
      arith,
      step-far-below g.s g.v g.p g.j g.k g.a l.q g.steps.now g.state_table.now l.state_table l.invariant c.requires c.loop-q-test.true,
      c.requires.near_room,
      l.auto.state_table,
    )

pub overflow_mul-state_table : goal.overflow_mul-state_table
overflow_mul-state_table c =
    let g = c.args in
    let l = c.loop-q in
    omega (
      arith,
      step-inside g.s g.v g.p g.j g.k g.a l.q g.steps.now g.state_table.now l.state_table l.invariant c.requires c.loop-q-test.true,
    )

pub overflow_add-state_table : goal.overflow_add-state_table
overflow_add-state_table c =
    let g = c.args in
    let l = c.loop-q in
    omega (
      arith,
      step-inside g.s g.v g.p g.j g.k g.a l.q g.steps.now g.state_table.now l.state_table l.invariant c.requires c.loop-q-test.true,
    )

pub bounds-steps-y : goal.bounds-steps-y
bounds-steps-y c =
    let g = c.args in
    let l = c.loop-q in
    step-inside g.s g.v g.p g.j g.k g.a l.q g.steps.now g.state_table.now l.state_table l.invariant c.requires c.loop-q-test.true

pub loop-q-preserved : goal.loop-q-preserved
loop-q-preserved c =
    let g = c.args in
    let l = c.loop-q in
    row-iteration g.s (step_cell g.s g.state_table.now g.p g.j g.steps.now g.k g.a) g.v l.q g.state_table.now l.state_table
    l.invariant (g.v * (g.s + 1) + (1 + l.q)) _ refl (omega (arith, c.requires.room, l.auto.state_table))
    (step_is g.s g.v g.p g.j g.k g.a l.q g.steps.now g.state_table.now l.state_table l.invariant c.requires c.loop-q-test.true)
