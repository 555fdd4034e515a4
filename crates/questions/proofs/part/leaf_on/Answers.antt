-- By whether the label is one.
use Rattle.std.proofs.Common.{sym, ap, ◌∙◌}
use Rattle.tables.specs.Climbs.{climbed_of}
use Rattle.questions.proofs.PartLaws.{leaf-outside, leaf-at}
use Rattle.questions.specs.inner.PartArgs.{leaves_view}
use Rattle.questions.proofs.part.leaf_on.Goals as goal

pub returns-then-k-a : goal.returns-then-k-a
returns-then-k-a c =
    let g = c.args in
    leaf-outside (leaves_view g.s g.k g.leaves.now) g.a c.if-k-a.true

pub returns : goal.returns
returns c =
    let g = c.args in
    c.handled_state.ensures
    ∙ ap climbed_of (sym (leaf-at (leaves_view g.s g.k g.leaves.now) g.a c.if-k-a.false))
