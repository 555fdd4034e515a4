-- The part by the root's kind and children.
use Rattle.std.proofs.Common.{arith}
use Rattle.questions.proofs.PartLoop.{part-leaf, part-first, part-outside, part-fork}
use Rattle.questions.proofs.part.part_on.Goals as goal

pub returns-then-kinds-v-eq0 : goal.returns-then-kinds-v-eq0
returns-then-kinds-v-eq0 c =
    let g = c.args in
    part-leaf _ g.earlier.now g.states.now g.nodes.now g.changes.now g.v c.label_on-a.result c.label_on-a.ensures c.leaf_on.result
    c.if-kinds-v-eq0.true c.leaf_on.ensures

pub returns-then-v-eq0 : goal.returns-then-v-eq0
returns-then-v-eq0 c =
    let g = c.args in
    part-first _ g.earlier.now g.states.now g.nodes.now g.changes.now g.v c.label_on-a.result c.label_on-a.ensures
    c.if-kinds-v-eq0.false c.if-v-eq0.true

pub returns-then-v-z : goal.returns-then-v-z
returns-then-v-z c =
    let g = c.args in
    part-outside _ g.earlier.now g.states.now g.nodes.now g.changes.now g.v c.label_on-a.result c.label_on-a.ensures
    c.if-kinds-v-eq0.false c.if-v-eq0.false (omega (arith, c.if-v-z.true, c.size_at-z.ensures))

pub returns : goal.returns
returns c =
    let g = c.args in
    part-fork _ g.earlier.now g.states.now g.nodes.now g.changes.now g.v c.label_on-a.result c.label_on-a.ensures
    c.if-kinds-v-eq0.false c.if-v-eq0.false c.size_at-z.result c.fork_on.result c.size_at-z.ensures c.if-v-z.false
    c.fork_on.ensures
