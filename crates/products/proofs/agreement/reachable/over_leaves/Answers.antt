-- One label more is looked at in each iteration.
use Rattle.std.proofs.Common.{◌∙◌, arith}
use Rattle.products.proofs.agreement.reachable.LeavesLoop.{leaves-loop-room, leaves-loop-new, leaves-loop-old, leaves-loop-done}
use Rattle.products.proofs.agreement.reachable.over_leaves.Goals as goal
use Rattle.products.proofs.agreement.reachable.over_leaves.Goals.{then-t-c-eq0, else-t-c-eq0}

pub with_line-requires : goal.with_line-requires
with_line-requires c = leaves-loop-room c.loop-label.invariant (omega arith) c.if-t-c-eq0.true

pub loop-label-preserved : goal.loop-label-preserved
loop-label-preserved c = elim c.if-t-c-eq0.branch [
  | then-t-c-eq0 w ↦ rw (w.t-is ∙ w.with_line.ensures)
      (leaves-loop-new c.loop-label.invariant (omega arith) w.if-t-c-eq0.true)
  | else-t-c-eq0 w ↦ rw w.t-is
      (leaves-loop-old c.loop-label.invariant (omega arith) w.if-t-c-eq0.false)
]

pub returns : goal.returns
returns c = leaves-loop-done c.loop-label.invariant (omega arith)
