-- `leaf_state` meets its contract.
use mathlib.Core.Path.{◌∙◌}
use Rattle.colour_questions.proofs.parts.TrialLaws.{leaf-outside, leaf-at}
use Rattle.colour_questions.proofs.parts.part.leaf_state.Goals as goal

pub returns-then-k-a : goal.returns-then-k-a
returns-then-k-a c =
    let g = c.args in
    leaf-outside g.s g.k g.leaves.now g.a c.if-k-a.true

pub returns : goal.returns
returns c =
    let g = c.args in
    c.untried_state.ensures ∙ leaf-at g.s g.k g.leaves.now g.a c.if-k-a.false
