-- The iteration of a node meets its contract: the laws of a leaf and of an inner node are in proofs/PassLoop.
use native.Mathlib.Omega.{arith}
use lib.ListN.{length-set}
use Rattle.runs.proofs.PassLoop.{leaf-step, inner-step, top-most, inner-two, left_below, rule-args}
use Rattle.runs.proofs.pass.step.Goals as goal

pub bounds-states-top : goal.bounds-states-top
bounds-states-top c = top-most c.requires.2

pub bounds-kinds-v : goal.bounds-kinds-v
bounds-kinds-v c = c.requires.1.inside

pub overflow_add-result : goal.overflow_add-result
overflow_add-result c =
    let p = c.requires in record { fits = omega (arith, p.1.inside, p.0.most) }

pub overflow_add-result-then-kinds-v-eq0 : goal.overflow_add-result-then-kinds-v-eq0
overflow_add-result-then-kinds-v-eq0 c =
    let p = c.requires in record { fits = omega (arith, p.2.few, p.1.inside, p.0.most) }

pub bounds-leaves-a : goal.bounds-leaves-a
bounds-leaves-a c =
    let p = c.requires in omega (arith, p.1.label_below, p.0.leaf_count)

pub returns-then-kinds-v-eq0 : goal.returns-then-kinds-v-eq0
returns-then-kinds-v-eq0 c =
    let p = c.requires in leaf-step p.0 p.2 p.1.inside c.if-kinds-v-eq0.true

pub overflow_sub-p : goal.overflow_sub-p
overflow_sub-p c = omega (arith, inner-two c.requires.2 c.requires.1.inside c.if-kinds-v-eq0.false)

pub bounds-states-top-2 : goal.bounds-states-top-2
bounds-states-top-2 c =
    rw (length-set c.args.states.now c.args.before.count c.args.before.last) (omega (arith, top-most c.requires.2))

pub overflow_cast-p : goal.overflow_cast-p
overflow_cast-p c =
    let p = c.requires in
    record { fits = omega (arith, left_below p.2 p.1.inside c.if-kinds-v-eq0.false, p.0.states) }

pub overflow_cast-q : goal.overflow_cast-q
overflow_cast-q c =
    let p = c.requires in record { fits = omega (arith, p.2.last_below) }

pub overflow_add-result-2 : goal.overflow_add-result-2
overflow_add-result-2 c =
    let p = c.requires in record { fits = omega (arith, p.1.inside, p.0.most) }

pub overflow_sub-result : goal.overflow_sub-result
overflow_sub-result c = omega (arith, inner-two c.requires.2 c.requires.1.inside c.if-kinds-v-eq0.false)

pub rule-requires : goal.rule-requires
rule-requires c =
    let p = c.requires in
    let r = p.0 in
    rule-args (left_below p.2 p.1.inside c.if-kinds-v-eq0.false) p.1.label_below
    (p.2.last_state (omega (arith, inner-two c.requires.2 c.requires.1.inside c.if-kinds-v-eq0.false))) r.states r.letters r.inner_count

pub returns : goal.returns
returns c =
    let p = c.requires in
    rw c.rule.ensures (inner-step p.0 p.2 p.1.inside c.if-kinds-v-eq0.false)
