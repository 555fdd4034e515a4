-- One factor more; where the next product is above the limit, so is the power.
use Rattle.choices.proofs.part_steps.LimitLoop.{power-over}
use Rattle.choices.proofs.part_steps.limit.assignments_fit.Goals as goal

pub returns-then-k-p : goal.returns-then-k-p
returns-then-k-p c = power-over _ _ _ _ c.loop-i.invariant c.loop-i-test.true c.if-k-p.true
