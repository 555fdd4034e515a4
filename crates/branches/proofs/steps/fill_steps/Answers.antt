-- The root's state byte and each node's are written: what is read is inside, and the state is the automaton's.
use Rattle.std.proofs.Common.{◌≡◌, ℕ, ◌-◌, length, arith}
use lib.ListN.{length-set}
use Rattle.branches.proofs.StepLoop.{args-pos, args-labels, state_in, step-above, fits-above, root-inside, root-iteration, step-iteration}
use Rattle.branches.proofs.steps.fill_steps.Goals as goal

pub overflow_sub-root : goal.overflow_sub-root
overflow_sub-root c = omega (arith, args-pos _ _ _ _ _ _ _ c.requires)

pub bounds-labels-root : goal.bounds-labels-root
bounds-labels-root c = omega (arith, args-labels _ _ _ _ _ _ _ c.requires, args-pos _ _ _ _ _ _ _ c.requires)

pub bounds-steps-k : goal.bounds-steps-k
bounds-steps-k c = root-inside _ _ _ _ _ _ _ c.requires (c.args.n - 1)

pub bounds-state_table-root : goal.bounds-state_table-root
bounds-state_table-root c =
    state_in c.args.s c.args.n (c.args.n - 1) (length c.args.state_table.now)
    (omega (arith, args-pos _ _ _ _ _ _ _ c.requires)) c.requires.room

pub loop-v-init : goal.loop-v-init
loop-v-init c =
    root-iteration _ _ _ _ _ _ _ c.requires (c.args.n - 1) c.args.state_table.now
    (omega (arith, args-pos _ _ _ _ _ _ _ c.requires))
    (state_in c.args.s c.args.n (c.args.n - 1) (length c.args.state_table.now)
    (omega (arith, args-pos _ _ _ _ _ _ _ c.requires)) c.requires.room)

pub bounds-state_table-p : goal.bounds-state_table-p
bounds-state_table-p c =
    let l = c.loop-v in
    (fits-above _ _ _ _ _ _ _ c.requires l.v c.args.state_table.now l.state_table (omega arith) l.invariant (omega arith)
    (omega (arith, l.auto.state_table, length-set {A = ℕ}, c.requires.room))).up

pub bounds-labels-v : goal.bounds-labels-v
bounds-labels-v c = omega (arith, args-labels _ _ _ _ _ _ _ c.requires)

pub overflow_mul-state_table-in-loop-v : goal.overflow_mul-state_table-in-loop-v
overflow_mul-state_table-in-loop-v c =
    let l = c.loop-v in
    let f = fits-above _ _ _ _ _ _ _ c.requires l.v c.args.state_table.now l.state_table (omega arith) l.invariant (omega arith)
    (omega (arith, l.auto.state_table, length-set {A = ℕ}, c.requires.room)) in
    omega (arith, f.inside)

pub overflow_add-state_table-in-loop-v : goal.overflow_add-state_table-in-loop-v
overflow_add-state_table-in-loop-v c =
    let l = c.loop-v in
    let f = fits-above _ _ _ _ _ _ _ c.requires l.v c.args.state_table.now l.state_table (omega arith) l.invariant (omega arith)
    (omega (arith, l.auto.state_table, length-set {A = ℕ}, c.requires.room)) in
    omega (arith, f.inside)

pub bounds-steps-q : goal.bounds-steps-q
bounds-steps-q c =
    let l = c.loop-v in
    (fits-above _ _ _ _ _ _ _ c.requires l.v c.args.state_table.now l.state_table (omega arith) l.invariant (omega arith)
    (omega (arith, l.auto.state_table, length-set {A = ℕ}, c.requires.room))).inside

pub loop-v-preserved : goal.loop-v-preserved
loop-v-preserved c =
    let l = c.loop-v in
    step-iteration _ _ _ _ _ _ _ c.requires (l.v - 1) c.args.state_table.now l.state_table
    (step-above _ _ _ _ _ _ _ c.requires l.v c.args.state_table.now l.state_table (omega arith) l.invariant) (omega arith)
    (fits-above _ _ _ _ _ _ _ c.requires l.v c.args.state_table.now l.state_table (omega arith) l.invariant (omega arith)
    (omega (arith, l.auto.state_table, length-set {A = ℕ}, c.requires.room))).here

pub returns : goal.returns
returns c =
    let e : 0 ≡ c.loop-v.v = omega arith in
    rw e c.loop-v.invariant
