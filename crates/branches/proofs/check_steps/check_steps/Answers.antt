-- The root's state byte and each node's are compared: what is read is inside, by StepLoop, and decides, by TestLoop.
use Rattle.std.proofs.Common.{◌≡◌, ◌-◌, length, arith}
use Rattle.branches.proofs.StepLoop.{args-pos, args-labels, state_in, step-above, fits-above, root-inside}
use Rattle.branches.proofs.TestLoop.{root-state-same, root-state-differs, state-same, state-differs, all-states}
use Rattle.branches.proofs.check_steps.check_steps.Goals as goal

pub overflow_sub-root : goal.overflow_sub-root
overflow_sub-root c = omega (arith, args-pos _ _ _ _ _ _ _ c.requires)

pub bounds-labels-root : goal.bounds-labels-root
bounds-labels-root c = omega (arith, args-labels _ _ _ _ _ _ _ c.requires, args-pos _ _ _ _ _ _ _ c.requires)

pub bounds-steps-k : goal.bounds-steps-k
bounds-steps-k c = root-inside _ _ _ _ _ _ _ c.requires (c.args.n - 1)

pub bounds-state_table-root : goal.bounds-state_table-root
bounds-state_table-root c =
    state_in c.args.s c.args.n (c.args.n - 1) (length c.args.state_table.now)
    (omega (arith, args-pos _ _ _ _ _ _ _ c.requires)) c.requires.room

pub returns-then-y-x : goal.returns-then-y-x
returns-then-y-x c =
    root-state-differs _ _ _ _ _ _ _ c.requires c.args.state_table.now (c.args.n - 1)
    (omega (arith, args-pos _ _ _ _ _ _ _ c.requires)) c.if-y-x.true

pub loop-v-init : goal.loop-v-init
loop-v-init c =
    root-state-same _ _ _ _ _ _ _ c.requires c.args.state_table.now (c.args.n - 1)
    (omega (arith, args-pos _ _ _ _ _ _ _ c.requires)) c.if-y-x.false

pub bounds-state_table-p : goal.bounds-state_table-p
bounds-state_table-p c =
    let b = c.args.state_table.now in
    (fits-above _ _ _ _ _ _ _ c.requires c.loop-v.v b b (omega arith) c.loop-v.invariant (omega arith) c.requires.room).up

pub bounds-labels-v : goal.bounds-labels-v
bounds-labels-v c = omega (arith, args-labels _ _ _ _ _ _ _ c.requires)

pub overflow_mul-x-in-loop-v : goal.overflow_mul-x-in-loop-v
overflow_mul-x-in-loop-v c =
    let b = c.args.state_table.now in
    let f = fits-above _ _ _ _ _ _ _ c.requires c.loop-v.v b b (omega arith) c.loop-v.invariant (omega arith) c.requires.room in
    omega (arith, f.inside)

pub overflow_add-x-in-loop-v : goal.overflow_add-x-in-loop-v
overflow_add-x-in-loop-v c =
    let b = c.args.state_table.now in
    let f = fits-above _ _ _ _ _ _ _ c.requires c.loop-v.v b b (omega arith) c.loop-v.invariant (omega arith) c.requires.room in
    omega (arith, f.inside)

pub bounds-steps-q : goal.bounds-steps-q
bounds-steps-q c =
    let b = c.args.state_table.now in
    (fits-above _ _ _ _ _ _ _ c.requires c.loop-v.v b b (omega arith) c.loop-v.invariant (omega arith) c.requires.room).inside

pub returns-then-y-x-2 : goal.returns-then-y-x-2
returns-then-y-x-2 c =
    let b = c.args.state_table.now in
    state-differs _ _ _ _ _ _ _ c.requires b (c.loop-v.v - 1) (omega arith)
    (step-above _ _ _ _ _ _ _ c.requires c.loop-v.v b b (omega arith) c.loop-v.invariant) c.if-y-x-2.true

pub loop-v-preserved : goal.loop-v-preserved
loop-v-preserved c =
    let b = c.args.state_table.now in
    state-same _ _ _ _ _ _ _ c.requires b (c.loop-v.v - 1) (omega arith)
    (step-above _ _ _ _ _ _ _ c.requires c.loop-v.v b b (omega arith) c.loop-v.invariant) c.if-y-x-2.false

pub returns : goal.returns
returns c =
    let e : 0 ≡ c.loop-v.v = omega arith in
    all-states _ _ _ _ _ _ _ c.requires c.args.state_table.now (rw e c.loop-v.invariant)
