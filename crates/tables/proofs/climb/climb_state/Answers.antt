-- One move more at each iteration; it ends at the depth, or where a move is none.
use Rattle.std.proofs.Common.{arith, ap₂, ℕ, ◌-◌}
use Rattle.tables.proofs.ClimbLoop.{climbing-start, climbing-iteration, climbing-rises, climbing-done, climbing-lost}
use Rattle.tables.proofs.climb.climb_state.Goals as goal

pub loop-next-init : goal.loop-next-init
loop-next-init c = climbing-start _ _ _ _ c.requires.at c.requires.state

pub returns-then-s-y : goal.returns-then-s-y
returns-then-s-y c =
    climbing-lost _ _ _ _ _ _ _ c.loop-next.invariant (omega arith) c.step_on-next.result c.step_on-next.ensures
    c.if-s-y.true

pub loop-next-smaller : goal.loop-next-smaller
loop-next-smaller c =
    climbing-rises _ _ _ _ _ _ _ c.loop-next.invariant (omega arith) c.step_on-next.result c.step_on-next.ensures
    c.if-s-y.false

pub loop-next-preserved : goal.loop-next-preserved
loop-next-preserved c =
    climbing-iteration _ _ _ _ _ _ _ c.loop-next.invariant (omega arith) c.step_on-next.result c.step_on-next.ensures
    c.if-s-y.false

pub returns : goal.returns
returns c =
    climbing-done _ _ _ _ _ _ _ c.loop-next.invariant (omega arith) _
    (ap₂ (λ (x y : ℕ). x - y) c.depth_at-2.ensures c.depth_at-3.ensures)
