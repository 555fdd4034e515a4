-- One state more; where a climb leads outside, none.
use Rattle.std.proofs.Common.{◌<◌, sym, ◌∙◌}
use Rattle.choices.proofs.part_steps.CarryLoop.{carry-start, carry-state, carry-next, carry-lost}
use Rattle.choices.proofs.part_steps.carry.carry_counts.Goals.{In-Reached}
use Rattle.choices.proofs.part_steps.carry.carry_counts.Goals as goal

pub loop-q-init : goal.loop-q-init
loop-q-init c = carry-start _ _ _ _ _ _ _ _ _ _ _ c.requires

-- the state that a climb reaches is below 16
reached-low : (c : In-Reached) → c.in-Reached.x.state < 16
reached-low c =
    carry-state _ _ _ _ _ _ _ _ _ _ _ _ _ _ c.loop-q.invariant c.loop-q-test.true c.in-Reached.x
    (sym c.in-Reached.is ∙ c.climb_state.ensures)

pub bounds-out-d : goal.bounds-out-d
bounds-out-d c = reached-low (goal.at.bounds-out-d c).In-Reached

pub bounds-out-d-in-Reached : goal.bounds-out-d-in-Reached
bounds-out-d-in-Reached c = reached-low (goal.at.bounds-out-d-in-Reached c).In-Reached

pub returns-in-OutOfRange : goal.returns-in-OutOfRange
returns-in-OutOfRange c =
    carry-lost _ _ _ _ _ _ _ _ _ _ _ _ _ _ c.loop-q.invariant c.loop-q-test.true
    (sym c.in-OutOfRange.is ∙ c.climb_state.ensures)

pub loop-q-preserved : goal.loop-q-preserved
loop-q-preserved c =
    carry-next _ _ _ _ _ _ _ _ _ _ _ _ _ _ c.loop-q.invariant c.loop-q-test.true c.in-Reached.x
    (sym c.in-Reached.is ∙ c.climb_state.ensures) c.capped_add.result c.capped_add.ensures
