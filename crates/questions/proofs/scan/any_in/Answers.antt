-- One entry more goes from the entries left to the answer; at the end none is left.
use Rattle.std.proofs.Common.{◌+◌, Bool, ◌||◌, drop, sym, ap, ◌∙◌, arith}
use Rattle.questions.specs.inner.Scans.{any_in}
use Rattle.questions.proofs.ScanLaws.{any_step, any-end}
use Rattle.questions.proofs.scan.any_in.Goals as goal

pub loop-e-preserved : goal.loop-e-preserved
loop-e-preserved c =
    let g = c.args in
    let l = c.loop-e in
    ap (λ (b : Bool). l.any || b || any_in g.c g.z (drop (l.e-index + 1) g.list.now)) c.is_in_run-any.ensures
    ∙ any_step g.c g.z l.any g.list.now l.e-index (omega arith)
    ∙ l.invariant

pub returns : goal.returns
returns c =
    let g = c.args in
    let l = c.loop-e in
    sym (any-end g.c g.z l.any g.list.now l.e-index (omega arith)) ∙ l.invariant
