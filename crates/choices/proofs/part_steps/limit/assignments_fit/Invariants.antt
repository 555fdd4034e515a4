-- p is the power at i, within the limit.
use Rattle.choices.proofs.part_steps.LimitLoop.{Powering}
use Rattle.choices.proofs.part_steps.limit.assignments_fit.Given as goal

abbrev pub invariant-loop-i : goal.invariant-loop-i
invariant-loop-i l =
    Powering l.k l.m l.p l.i
