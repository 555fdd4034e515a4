-- One line more is joined with line n in each iteration.
use Rattle.std.proofs.Common.{◌∙◌, arith}
use Rattle.products.proofs.agreement.reachable.RecordLaws.{count_most}
use Rattle.products.proofs.agreement.reachable.LinesLoop.{lines-loop-in, lines-loop-first, lines-loop-second, lines-loop-next}
use Rattle.products.proofs.agreement.reachable.LinesLoop.{lines-loop-done, lines-loop-marks, lines-loop-stop}
use Rattle.products.proofs.agreement.reachable.over_lines.Goals as goal

pub overflow_add-j-end : goal.overflow_add-j-end
overflow_add-j-end c = omega (arith, c.requires.inside, count_most _ _ _ c.requires.fits)

pub bounds-t-n : goal.bounds-t-n
bounds-t-n c = lines-loop-in c.loop-j.invariant

pub bounds-t-j : goal.bounds-t-j
bounds-t-j c = omega (arith, lines-loop-in c.loop-j.invariant)

pub over_labels-requires : goal.over_labels-requires
over_labels-requires c = lines-loop-first c.loop-j.invariant (omega arith)

pub over_labels-requires-in-loop-j : goal.over_labels-requires-in-loop-j
over_labels-requires-in-loop-j c =
    lines-loop-second c.loop-j.invariant (omega arith) c.over_labels.ensures

pub first_differing-requires : goal.first_differing-requires
first_differing-requires c =
    lines-loop-marks c.loop-j.invariant (omega arith) c.over_labels.ensures
    c.over_labels-in-loop-j.ensures

pub returns-then-first_differing-ne0 : goal.returns-then-first_differing-ne0
returns-then-first_differing-ne0 c =
    lines-loop-stop c.loop-j.invariant (omega arith) c.over_labels.ensures
    c.over_labels-in-loop-j.ensures (λ e. c.if-first_differing-ne0.true (c.first_differing.ensures ∙ e))

pub loop-j-preserved : goal.loop-j-preserved
loop-j-preserved c =
    lines-loop-next c.loop-j.invariant (omega arith) c.over_labels.ensures
    c.over_labels-in-loop-j.ensures

pub returns : goal.returns
returns c = lines-loop-done c.loop-j.invariant (omega arith)
