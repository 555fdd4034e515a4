-- One label more is looked at in each iteration.
use Rattle.std.proofs.Common.{◌∙◌, arith}
use Rattle.products.proofs.agreement.reachable.LabelsLoop.{labels-loop-step, labels-loop-room, labels-loop-new, labels-loop-old, labels-loop-done}
use Rattle.products.proofs.agreement.reachable.over_labels.Goals as goal
use Rattle.products.proofs.agreement.reachable.over_labels.Goals.{then-t-at-eq0, else-t-at-eq0}

pub pair_step-c-requires : goal.pair_step-c-requires
pair_step-c-requires c = labels-loop-step c.loop-a.invariant (omega arith)

pub with_line-requires : goal.with_line-requires
with_line-requires c =
    labels-loop-room c.loop-a.invariant (omega arith) c.pair_step-c.ensures
    c.if-t-at-eq0.true

pub loop-a-preserved : goal.loop-a-preserved
loop-a-preserved c = elim c.if-t-at-eq0.branch [
  | then-t-at-eq0 w ↦ rw (w.t-is ∙ w.with_line.ensures)
      (labels-loop-new c.loop-a.invariant (omega arith) c.pair_step-c.ensures
      w.if-t-at-eq0.true)
  | else-t-at-eq0 w ↦ rw w.t-is
      (labels-loop-old c.loop-a.invariant (omega arith) c.pair_step-c.ensures
      w.if-t-at-eq0.false)
]

pub returns : goal.returns
returns c = labels-loop-done c.loop-a.invariant (omega arith)
