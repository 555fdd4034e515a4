-- The last entry, or else the place in what is left.
use Rattle.std.proofs.Common.{◌≡◌, ℕ, length, sym, ap, ◌∙◌, arith}
use lib.Seq.{take-length}
use Rattle.questions.specs.inner.Scans.{last_in, any_in}
use Rattle.questions.proofs.ScanLaws.{last-bound, last-hit, last-nowhere, any-of-none}
use Rattle.questions.proofs.scan.last_in.Goals as goal

pub returns-then-count-eq0 : goal.returns-then-count-eq0
returns-then-count-eq0 c =
    let g = c.args in
    omega (arith, last-bound g.c g.z g.list.now)

pub returns-then-z-eq0 : goal.returns-then-z-eq0
returns-then-z-eq0 c =
    let g = c.args in
    let z : g.z ≡ 0 = c.if-z-eq0.true in
    last-nowhere g.c g.z g.list.now
    (ap (λ (n : ℕ). any_in g.c n g.list.now) z ∙ any-of-none g.c g.list.now)

pub returns-then-is_in_run : goal.returns-then-is_in_run
returns-then-is_in_run c =
    let g = c.args in
    last-hit g.c g.z g.list.now (length g.list.now) (omega arith) (omega arith)
    (sym c.is_in_run.ensures ∙ c.if-is_in_run.true)
    ∙ ap (last_in g.c g.z) (take-length g.list.now)

pub overflow_cast-result-2 : goal.overflow_cast-result-2
overflow_cast-result-2 c =
    let g = c.args in
    omega (arith, c.last_of_few.ensures ∙ c.without_eights-i.ensures.place, last-bound g.c g.z g.list.now)
