-- `ask::after_upper` meets its contract: the state of the upper label, or none.
use native.Mathlib.Omega.{arith}
use Rattle.list_laws.proofs.RowLaws.{stride}
use Rattle.branches.proofs.FinishLaws.{first-no-label, first-label}
use Rattle.branches.proofs.ask.after_upper.Goals as goal

pub returns-then-k-a : goal.returns-then-k-a
returns-then-k-a c = first-no-label _ _ _ _ _ c.if-k-a.true

pub bounds-steps-a : goal.bounds-steps-a
bounds-steps-a c =
    omega (arith, stride c.args.k 0 c.args.s c.requires.least, c.requires.steps_room, c.if-k-a.false)

pub returns : goal.returns
returns c = first-label _ _ _ _ _ c.if-k-a.false
