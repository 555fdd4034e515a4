-- The pass meets its contract. The invariant: the trees that wait before node v are those of the labels as changed. The measure is what
-- is left of the nodes. The laws are in proofs/PassLoop and proofs/ChangeLaws.
use Prim.Native.Nat.{ℕ, ◌-◌, ◌≤◌, ◌<◌}
use mathlib.Core.Path.{◌≡◌, refl, sym, ap, ◌∙◌}
use mathlib.Core.List.{List, []}
use native.Mathlib.Omega.{arith}
use lib.ListN.{length, get_or}
use Rattle.trees.specs.Changes.{changed}
use Rattle.runs.specs.inner.Listed.{marked, Marks}
use Rattle.runs.specs.inner.Pass.{reads, read_on, Stacked}
use Rattle.trees.proofs.RunLaws.{changed-length}
use Rattle.runs.proofs.ListedLaws.{label_below, label-changed}
use Rattle.runs.proofs.PassLoop.{pass-start, pass-end, no-trees}
use borrow.Author.Rules.{rules}
use Rattle.runs.proofs.pass.pass_in.Statement.{statement}
use Rattle.runs.proofs.pass.pass_in.Tie as tie

abbrev invariant-loop : tie.invariant-loop-v
invariant-loop states₀ kinds labels nodes news leaves inner s k n turn₀ v₀ states turn v =
    (n ≡ length kinds) × (v ≡ turn.node) × Stacked kinds s states turn × (length states ≡ length states₀)
    × (read_on s k leaves inner kinds (changed labels nodes news) states turn
    ≡ reads s k leaves inner kinds (changed labels nodes news) [])

abbrev decreases-loop : tie.decreases-loop-v
decreases-loop states₀ kinds labels nodes news leaves inner s k n turn₀ v₀ states turn v = n - v

-- ---- at the loop's head

abbrev entered : tie.At-loop-v invariant-loop decreases-loop → tie.Start invariant-loop decreases-loop
entered l = l.before.before.before.before.before.before.before.before

-- the labels as changed
abbrev labelled : tie.At-loop-v invariant-loop decreases-loop → List ℕ
labelled l = changed (entered l).args.labels.now (entered l).args.nodes.now (entered l).args.news.now

labelled-length : (l : tie.At-loop-v invariant-loop decreases-loop) → length (labelled l) ≡ length (entered l).args.kinds.now
labelled-length l =
    let s = entered l in
    changed-length s.args.labels.now s.args.nodes.now s.args.news.now ∙ s.requires.0.labelled

labels_in : (l : tie.At-loop-v invariant-loop decreases-loop) (v : ℕ) → v < length (entered l).args.labels.now
    → get_or (labelled l) v 0 < (entered l).args.k
labels_in l v h =
    let s = entered l in
    let ls = s.args.labels.now in
    let vs = s.args.nodes.now in
    let bs = s.args.news.now in
    rw (label-changed ls vs bs v h)
    (label_below s.args.k (get_or ls v 0) vs bs v (s.requires.0.labels_below v) s.requires.0.changes_below)

-- the marks say what the labels as changed are
marks-are : (l : tie.At-loop-v invariant-loop decreases-loop) {to : ℕ} {marks : List ℕ}
    → Marks (entered l).args.nodes.now (entered l).args.news.now l.loop-v.v to marks
    → to ≤ length (entered l).args.kinds.now → (u : ℕ) → l.loop-v.turn.node ≤ u → u < to
    → marked (get_or (entered l).args.labels.now u 0) (get_or marks (u - l.loop-v.turn.node) 0) ≡ get_or (labelled l) u 0
marks-are l {marks = marks} m h u g b =
    let s = entered l in
    let ls = s.args.labels.now in
    ap (λ (v : ℕ). marked (get_or ls u 0) (get_or marks (u - v) 0)) (sym l.loop-v.invariant.1)
    ∙ m.at (get_or ls u 0) u (omega (arith, l.loop-v.invariant.1)) b
    ∙ sym (label-changed ls s.args.nodes.now s.args.news.now u (omega (arith, s.requires.0.labelled)))

-- ---- the needs

loop-holds : tie.Need-loop-v-init invariant-loop decreases-loop
loop-holds c = (
  refl,
  refl,
  pass-start c.requires.1 c.requires.0.postorder,
  refl,
  ap (reads c.args.s c.args.k c.args.leaves.now c.args.inner.now c.args.kinds.now
      (changed c.args.labels.now c.args.nodes.now c.args.news.now)) (no-trees c.args.states.now),
)

span-end-requires : tie.Need-span_end-to-requires invariant-loop decreases-loop
span-end-requires c κs = omega (arith, c.loop-v-test.true, c.loop-v.invariant.0)

slice-aggregate-mark-in : tie.Need-slice_bounds-mark_in-end invariant-loop decreases-loop
slice-aggregate-mark-in c = sym c.unmarked-marks.ensures.size

mark-in-requires : tie.Need-mark_in-requires invariant-loop decreases-loop
mark-in-requires c κs =
    let e = c.span_end-to.ensures in
    let p = (entered c.before.before.before.before).requires.0 in (
      record {
        rising = omega (arith, e.rising);
        few = e.few;
        paired = omega (arith, p.paired);
        labels_below = λ j. omega (arith, p.changes_below j, p.letters);
      },
      c.unmarked-marks.ensures,
    )

slice-aggregate-turns : tie.Need-slice_bounds-turns-end invariant-loop decreases-loop
slice-aggregate-turns c = sym c.mark_in.ensures.size

turns-requires : tie.Need-turns-turn-requires invariant-loop decreases-loop
turns-requires c κs =
    let l = c.before.before.before.before.before.before.before.before in
    let e = c.span_end-to.ensures in
    let m = c.mark_in.ensures in
    let p = (entered l).requires.0 in
    let i = l.loop-v.invariant in (
      record {
        most = p.most;
        leaf_count = p.leaf_count;
        leaf_below = p.leaf_below;
        inner_count = p.inner_count;
        inner_below = p.inner_below;
        states = p.states;
        letters = p.letters;
      },
      record {
        labelled = p.labelled;
        labels_below = p.labels_below;
        marked_below = λ u g h. rw (marks-are l m e.inside u g h) (labels_in l u (omega (arith, e.inside, p.labelled)));
        rising = omega (arith, e.rising, i.1);
        inside = e.inside;
        room = omega (arith, e.few, m.size, i.1);
        stop = rw (← i.1) m.stop;
      },
      i.2,
    )

loop-less : tie.Need-loop-v-smaller invariant-loop decreases-loop
loop-less c =
    let e = c.span_end-to.ensures in
    omega (arith, e.rising, e.inside)

loop-again : tie.Need-loop-v-preserved invariant-loop decreases-loop
loop-again c =
    let l = c.before.before.before.before.before.before.before.before.before.before.before in
    let e = c.span_end-to.ensures in
    let m = c.mark_in.ensures in
    let d = c.turns-turn.ensures in (
      refl,
      sym d.reached,
      d.stacked,
      d.size ∙ l.loop-v.invariant.3,
      d.same (labelled l) (labelled-length l) (marks-are l m e.inside) ∙ l.loop-v.invariant.4,
    )

same_length : tie.Need-shape_of-states invariant-loop decreases-loop
same_length c = c.loop-v.invariant.3

returns : tie.Need-returns invariant-loop decreases-loop
returns c =
    let l = c.before in
    pass-end (labelled l) (entered l).args.leaves.now (entered l).args.inner.now (entered l).args.k l.loop-v.invariant.2 l.loop-v.invariant.4
    (omega (arith, l.loop-v.invariant.0, l.loop-v.invariant.1)) (labelled-length l) (entered l).requires.0.postorder

pub pass_in_spec : {M : Type 1} → statement M
pass_in_spec =
    tie.close
    (tie.spec invariant-loop decreases-loop loop-holds span-end-requires (λ c κs. search rules) slice-aggregate-mark-in
    mark-in-requires slice-aggregate-turns turns-requires loop-less loop-again same_length returns)
