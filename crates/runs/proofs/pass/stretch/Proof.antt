-- The iterations up to the next mark meet their contract, which holds before each of them. The measure is the number
-- of nodes left.
use Prim.Native.Nat.{ℕ, ◌-◌, ◌<◌}
use mathlib.Core.Path.{◌≡◌, refl, sym, ap, ◌∙◌}
use native.Mathlib.Omega.{arith}
use lib.ListN.{length, get_or}
use Rattle.runs.specs.inner.Pass.{StretchDone}
use Rattle.runs.proofs.PassLoop.{stretch-start, stretch-step, stretch-inside, stretch-before}
use Rattle.runs.proofs.pass.stretch.Statement.{statement}
use Rattle.runs.proofs.pass.stretch.Tie as tie

abbrev invariant-loop : tie.invariant-loop-v
invariant-loop states₀ kinds labels marks from leaves inner s k waiting₀ v₀ states waiting v =
    (v ≡ waiting.node) × StretchDone kinds labels marks from leaves inner s k states₀ waiting₀ states waiting

abbrev decreases-loop : tie.decreases-loop-v
decreases-loop states₀ kinds labels marks from leaves inner s k waiting₀ v₀ states waiting v = length kinds - v

abbrev entered : tie.At-loop-v invariant-loop decreases-loop → tie.Start invariant-loop decreases-loop
entered l = l.before.before.before.before.before.before.before

-- the mark of the iteration's node
mark-here : (c : tie.In-loop-v invariant-loop decreases-loop)
    → let l = c.before.before in
    get_or (entered l).args.marks.now (l.loop-v.waiting.node - (entered l).args.from) 0 ≡ 255
mark-here c =
    let l = c.before.before in
    let s = entered l in
    ap (λ (u : ℕ). get_or s.args.marks.now (u - s.args.from) 0) (sym l.loop-v.invariant.0) ∙ c.loop-v-test.true

-- the iteration's node is one of the plan's
inside : (c : tie.In-loop-v invariant-loop decreases-loop) → let l = c.before.before in l.loop-v.v < length (entered l).args.kinds.now
inside c =
    let l = c.before.before in
    let a = (entered l).requires.1 in
    omega (arith, stretch-before a l.loop-v.invariant.1 (mark-here c), a.inside, l.loop-v.invariant.0)

-- ---- the needs

loop-holds : tie.Need-loop-v-init invariant-loop decreases-loop
loop-holds c = (refl, stretch-start c.requires.2)

sub-if1 : tie.Need-overflow_sub-v invariant-loop decreases-loop
sub-if1 c = omega (arith, c.loop-v.invariant.0, c.loop-v.invariant.1.rising, (entered c).requires.1.first)

shared-slice-read-if1 : tie.Need-bounds-marks-v invariant-loop decreases-loop
shared-slice-read-if1 c =
    let l = c.before in
    let a = (entered l).requires.1 in
    omega (arith, l.loop-v.invariant.0, l.loop-v.invariant.1.rising, a.first, a.room, stretch-inside a l.loop-v.invariant.1)

shared-slice-read-a : tie.Need-bounds-labels-v invariant-loop decreases-loop
shared-slice-read-a c = omega (arith, inside c.before, (entered c.before.before.before).requires.1.labelled)

cast-a : tie.Need-overflow_cast-a invariant-loop decreases-loop
cast-a c =
    let l = c.before.before.before in
    let p = (entered l).requires in
    record { fits = omega (arith, p.1.labels_below l.loop-v.v, p.0.letters) }

step-requires : tie.Need-step-waiting-requires invariant-loop decreases-loop
step-requires c κs =
    let l = c.before.before.before.before in
    let p = (entered l).requires in (
      p.0,
      record { inside = omega (arith, inside c.before.before, l.loop-v.invariant.0); label_below = p.1.labels_below l.loop-v.v },
      l.loop-v.invariant.1.stacked,
    )

add-v : tie.Need-overflow_add-v invariant-loop decreases-loop
add-v c =
    let i = c.before.before.before.before.before in
    record { fits = omega (arith, inside i, (entered i.before.before).requires.0.most) }

loop-less : tie.Need-loop-v-smaller invariant-loop decreases-loop
loop-less c = omega (arith, inside c.before.before.before.before.before)

loop-again : tie.Need-loop-v-preserved invariant-loop decreases-loop
loop-again c =
    let i = c.before.before.before.before.before in
    let l = i.before.before in
    let d = c.step-waiting.ensures in
    let label = ap (λ (u : ℕ). get_or (entered l).args.labels.now u 0) l.loop-v.invariant.0 in
    (omega (arith, d.next, l.loop-v.invariant.0), stretch-step l.loop-v.invariant.1 (mark-here i) label d)

same_length : tie.Need-shape_of-states invariant-loop decreases-loop
same_length c = c.loop-v.invariant.1.size

returns : tie.Need-returns invariant-loop decreases-loop
returns c = c.loop-v.invariant.1

pub stretch_spec : {M : Type 1} → statement M
stretch_spec =
    tie.close
    (tie.spec invariant-loop decreases-loop loop-holds sub-if1 shared-slice-read-if1 shared-slice-read-a cast-a step-requires add-v
    loop-less loop-again same_length returns)
