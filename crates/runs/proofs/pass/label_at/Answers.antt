-- The label of a node as changed meets its contract.
use mathlib.Core.Path.{sym}
use Rattle.runs.proofs.ChangeLaws.{marked-none, marked-label}
use Rattle.runs.proofs.pass.label_at.Goals as goal

pub returns-then-mark : goal.returns-then-mark
returns-then-mark c = sym (marked-none _ _ c.if-mark.true)

pub returns : goal.returns
returns c = sym (marked-label _ _ c.if-mark.false)
