-- `part_by_colours` meets its contract.
use Rattle.colour_questions.proofs.parts.TrialLaws.{leaf-few}
use Rattle.colour_questions.proofs.parts.ForkCases.{part-leaf, part-first, part-outside, part-fork}
use native.Mathlib.Omega.{arith}
use Rattle.colour_questions.proofs.parts.part.part_by_colours.Goals as goal

pub returns-then-kinds-v-eq0 : goal.returns-then-kinds-v-eq0
returns-then-kinds-v-eq0 c =
    part-leaf _ _ _ _ _ _ _ c.label_on-a.ensures _ c.if-kinds-v-eq0.true c.leaf_state.ensures
    (leaf-few _ _ _ c.label_on-a.result _ c.leaf_state.ensures)

pub returns-then-v-eq0 : goal.returns-then-v-eq0
returns-then-v-eq0 c =
    part-first _ _ _ _ _ _ _ c.label_on-a.ensures c.if-kinds-v-eq0.false c.if-v-eq0.true

pub returns-then-v-z : goal.returns-then-v-z
returns-then-v-z c =
    part-outside _ _ _ _ _ _ _ c.label_on-a.ensures
    c.if-kinds-v-eq0.false c.if-v-eq0.false (omega (arith, c.if-v-z.true, c.size_at-z.ensures))

pub returns : goal.returns
returns c =
    let g = c.args in
    part-fork _ _ _ _ _ _ _ c.label_on-a.ensures c.if-kinds-v-eq0.false c.if-v-eq0.false g.m _ _ c.requires.reads.sets
    c.size_at-z.ensures c.if-v-z.false c.fork_by_colours.ensures
