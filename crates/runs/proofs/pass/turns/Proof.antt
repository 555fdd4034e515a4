-- The iterations of the nodes whose changes are marked meet their contract: `Passed` holds before each of them. The
-- measure is the number of nodes left.
use Prim.Native.Nat.{ℕ, ◌-◌, ◌≤◌, ◌<◌}
use mathlib.Core.Path.{◌≡◌, refl, ap, ◌∙◌}
use native.Mathlib.Omega.{arith}
use lib.ListN.{get_or}
use Rattle.runs.specs.inner.Listed.{marked}
use Rattle.runs.proofs.PassLoop.{Passed, span-start, span-step, span-end, stretch-args}
use Rattle.runs.proofs.pass.turns.Statement.{statement}
use Rattle.runs.proofs.pass.turns.Tie as tie

abbrev invariant-loop : tie.invariant-loop-v
invariant-loop states₀ kinds labels marks to leaves inner s k from waiting₀ v₀ states waiting v =
    (v ≡ waiting.node) × Passed kinds labels marks to leaves inner s k states₀ waiting₀ states waiting

abbrev decreases-loop : tie.decreases-loop-v
decreases-loop states₀ kinds labels marks to leaves inner s k from waiting₀ v₀ states waiting v = to - v

abbrev entered : tie.At-loop-v invariant-loop decreases-loop → tie.Start invariant-loop decreases-loop
entered l = l.before.before.before.before.before.before.before

before-end : (c : tie.In-loop-v invariant-loop decreases-loop) → let l = c.before in l.loop-v.waiting.node < (entered l).args.to
before-end c = omega (arith, c.loop-v-test.true, c.loop-v.invariant.0)

-- the label of the iteration, and its bound
label_is : (c : tie.After-label_at-a invariant-loop decreases-loop)
    → let l = c.before.before in
    let s = entered l in
    let u = l.loop-v.waiting.node in
    c.label_at-a.result ≡ marked (get_or s.args.labels.now u 0) (get_or s.args.marks.now (u - s.args.before.node) 0)
label_is c =
    let l = c.before.before in
    let s = entered l in
    c.label_at-a.ensures
    ∙ ap (λ (u : ℕ). marked (get_or s.args.labels.now u 0) (get_or s.args.marks.now (u - s.args.before.node) 0)) l.loop-v.invariant.0

label_in : (c : tie.After-label_at-a invariant-loop decreases-loop) → c.label_at-a.result < (entered c.before.before).args.k
label_in c =
    let l = c.before.before in
    rw (label_is c) ((entered l).requires.1.marked_below l.loop-v.waiting.node l.loop-v.invariant.1.rising (before-end c.before))

-- ---- the needs

loop-holds : tie.Need-loop-v-init invariant-loop decreases-loop
loop-holds c =
    let p = c.requires in (refl, span-start p.1.rising p.2)

label-at-requires : tie.Need-label_at-a-requires invariant-loop decreases-loop
label-at-requires c κs =
    let l = c.before in
    let a = (entered l).requires.1 in
    let r : (entered l).args.before.node ≤ l.loop-v.v = omega (arith, l.loop-v.invariant.0, l.loop-v.invariant.1.rising) in
    (r, omega (arith, a.inside, a.labelled), omega (arith, a.room))

cast-a : tie.Need-overflow_cast-a invariant-loop decreases-loop
cast-a c = record { fits = omega (arith, label_in c, (entered c.before.before).requires.0.letters) }

step-requires : tie.Need-step-turned-requires invariant-loop decreases-loop
step-requires c κs =
    let l = c.before.before.before in
    let p = (entered l).requires in (
      p.0,
      record { inside = omega (arith, before-end c.before.before, p.1.inside); label_below = label_in c.before },
      l.loop-v.invariant.1.stacked,
    )

stretch-requires : tie.Need-stretch-waiting-requires invariant-loop decreases-loop
stretch-requires c κs =
    let i = c.before.before.before.before.before.before in
    let l = i.before in
    let p = (entered l).requires in
    let d = c.step-turned.ensures in
    (p.0, stretch-args p.1 l.loop-v.invariant.1 (before-end i) d.next, d.stacked)

loop-less : tie.Need-loop-v-smaller invariant-loop decreases-loop
loop-less c =
    let d = c.step-turned.ensures in
    let f = c.stretch-waiting.ensures in
    omega (arith, d.next, f.rising, c.loop-v.invariant.0)

loop-again : tie.Need-loop-v-preserved invariant-loop decreases-loop
loop-again c =
    let d = c.step-turned.ensures in
    let f = c.stretch-waiting.ensures in
    let a = c.before.before.before.before.before.before.before.before in
    let i = a.before in
    let l = i.before in
    (refl, span-step (entered l).requires.1 l.loop-v.invariant.1 (before-end i) (label_is a) d f)

same_length : tie.Need-shape_of-states invariant-loop decreases-loop
same_length c = c.loop-v.invariant.1.size

returns : tie.Need-returns invariant-loop decreases-loop
returns c = span-end c.loop-v.invariant.1 (omega (arith, c.loop-v-test.false, c.loop-v.invariant.0))

pub turns_spec : {M : Type 1} → statement M
turns_spec =
    tie.close
    (tie.spec invariant-loop decreases-loop loop-holds label-at-requires cast-a step-requires stretch-requires loop-less loop-again
    same_length returns)
