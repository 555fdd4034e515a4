-- The label as changed, by the place found.
use Rattle.std.proofs.Common.{◌≡◌, get_or, sym, ap, ◌∙◌, arith}
use Rattle.trees.specs.Changes.{changed}
use Rattle.questions.specs.inner.Scans.{label_of}
use Rattle.questions.proofs.ScanLaws.{last-bound, label-scan}
use Rattle.questions.proofs.PartLaws.{label-none, label-found}
use Rattle.questions.proofs.part.label_on.Goals as goal
use Rattle.questions.proofs.part.label_on.Goals.{After-last_in-at}

scanned : (c : After-last_in-at) → let g = c.args in
    get_or (changed g.labels.now g.nodes.now g.changes.now) g.v 0
    ≡ label_of g.labels.now g.changes.now g.v c.last_in-at.result
scanned c =
    let g = c.args in
    label-scan g.v g.labels.now g.nodes.now g.changes.now c.requires.at c.requires.same
    ∙ ap (label_of g.labels.now g.changes.now g.v) (sym c.last_in-at.ensures)

pub returns-then-at-eq0 : goal.returns-then-at-eq0
returns-then-at-eq0 c =
    let g = c.args in
    sym (scanned (goal.at.returns-then-at-eq0 c).After-last_in-at
    ∙ label-none c.last_in-at.result g.labels.now g.changes.now g.v c.if-at-eq0.true)

pub bounds-changes-at : goal.bounds-changes-at
bounds-changes-at c = omega (arith, last-bound c.args.v 1 c.args.nodes.now)

pub returns : goal.returns
returns c =
    let g = c.args in
    sym (scanned (goal.at.returns c).After-last_in-at
    ∙ label-found c.last_in-at.result g.labels.now g.changes.now g.v c.if-at-eq0.false)
