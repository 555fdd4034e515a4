-- The nodes up to v are at their places.
use Rattle.planner.specs.Siblings.{Siblings}
use Rattle.planner.specs.out.inner.Laid.{LayArgs}
use Rattle.planner.proofs.out.LayLoop.{Laying}
use Rattle.planner.proofs.out.lay.lay_nodes.Given as goal

abbrev pub invariant-loop-v : goal.invariant-loop-v
invariant-loop-v l = (f : Siblings) → LayArgs f l.labels l.places l.initial.plan l.size
    → Laying f l.labels l.size l.initial.plan l.plan l.v
