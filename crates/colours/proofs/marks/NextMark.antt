-- The highest marked node on a path, found by a climb among the marked nodes (source document 002, problem 3.3).
--     next-mark       where the n nodes from l upward have a marked one: the climb from the lowest marked node at l or
--                     above, to the depth that is the number of marked nodes above these n, ends at the highest
--                     marked of the n
--     next-mark-few   in at most three moves for each binary digit of the tree's height; next-mark-limit: at most 45
--
-- "from the lowest left on the path to the highest; the moves are the links, at most 45"
-- The path may reach above the root: n is at most the depth of l and one more.
use Prim.Native.Nat.{ℕ, zero, suc, ◌+◌, ◌-◌, ◌*◌, ◌≤◌, ◌<◌}
use mathlib.Core.Path.{◌≡◌, refl, sym, ap, ◌∙◌}
use mathlib.Core.Bool.{Bool, true}
use native.Mathlib.Omega.{arith}
use lib.ListN.{length}
use Rattle.trees.specs.Tree.{Tree, size, height}
use Rattle.trees.specs.Numbering.{depth, ancestor}
use Rattle.trees.specs.Climb.{move_count, digits}
use Rattle.list_laws.proofs.Choice.{le-or}
use Rattle.trees.proofs.JumpLaws.{ancestor-in, ancestor-depth, ancestor-add}
use Rattle.trees.proofs.HeightLaws.{depth-height, height-limit}
use Rattle.trees.proofs.Digits.{digits-limit}
use Rattle.trees.proofs.MoveCount.{move_count-bound}
use Rattle.trees.specs.Ascents.{rise}
use Rattle.colours.specs.marks.Marks.{bit, marks_in, marks_above, marks_at, marked_up, marked_forest}
use Rattle.colours.specs.marks.NextMarks.{NextMark}
use Rattle.trees.proofs.AscentLaws.{rise-depth}
use Rattle.trees.proofs.AscentClimbs.{Climbed, climb-up}
use Rattle.colours.proofs.marks.MarkLaws.{bit_le, marks-split, marks-at, marks-one, marks-mono, marks_at-is}
use Rattle.colours.proofs.marks.MarkLaws.{marks_above-le}
use Rattle.colours.proofs.marks.MarkLaws.{MarkedUp, marked-up, marks-ascend, Lowest, lowest}

module _ (t : Tree) (m : ℕ → Bool) where
  -- ---- rising among marked nodes leads to a marked ancestor

  record Risen (b k : ℕ) : Type 0 where
    pub at : ℕ
    pub within : at ≤ depth t b
    pub is : rise (marked_up t m) b k ≡ ancestor t b at
    pub marked : m (ancestor t b at) ≡ true

  risen : (b k : ℕ) → b < size t → m b ≡ true → k ≤ marks_above t m b → Risen b k
  unfolding rise ancestor
  risen b zero h e l = record { at = 0; within = omega arith; is = refl; marked = e }
  risen b (suc k) h e l = go (risen b k h e (omega arith))
    where
      go : Risen b k → Risen b (suc k)
      go r =
          let u : ℕ = ancestor t b r.at in
          let hu : u < size t = ancestor-in t b r.at h in
          let d : marks_above t m (rise (marked_up t m) b k) + k ≡ marks_above t m b =
          rise-depth (size t) (marked_up t m) (marks_above t m) (marks-ascend t m) b k h (omega arith) in
          let d' : marks_above t m u + k ≡ marks_above t m b = rw r.is at d in
          let s : MarkedUp t m u = marked-up t m u hu (omega arith) in
          let q : ancestor t u s.at ≡ ancestor t b (s.at + r.at) = ancestor-add t b r.at s.at in
          record {
            at = s.at + r.at;
            within = omega (arith, s.within, ancestor-depth t b r.at h r.within);
            is = ap (marked_up t m) r.is ∙ s.is ∙ q;
            marked = ap m (sym q) ∙ s.marked;
          }

  -- ---- the highest marked node of a path

  module _ (l n to : ℕ) (h : l < size t) (c : marks_at t m l ≡ marks_in t m l n + to) (p : 0 < marks_in t m l n) where
    -- the marked ancestor with `to` marked nodes above it is the highest of the n
    placed : (i : ℕ) → i ≤ depth t l → m (ancestor t l i) ≡ true → marks_above t m (ancestor t l i) ≡ to
        → (i < n) × (marks_in t m l n ≡ suc (marks_in t m l i)) × (marks_in t m (ancestor t l (suc i)) (n - suc i) ≡ 0)
    placed i w e q =
        let z : bit (m (ancestor t l i)) ≡ 1 = ap bit e in
        let s : marks_in t m l n ≡ suc (marks_in t m l i) =
        omega (arith, marks-at t m l i h w, marks_at-is t m (ancestor t l i)) in
        le-or n i
        (λ a. absurd (omega (arith, marks-mono t m l n i a)))
        (λ a. (a, s, omega (arith, marks-split t m l (suc i) (n - suc i) n (omega arith), marks-one t m l i)))

    low : Lowest t m l
    low = lowest t m l h (omega arith)

    climbed : Climbed (size t) (marked_up t m) (marks_above t m) (marks-ascend t m) (ancestor t l low.at) to
    climbed =
        climb-up (size t) (marked_up t m) (marks_above t m) (marks-ascend t m) (ancestor t l low.at) to
        (ancestor-in t l low.at h) (omega (arith, low.count))

    pub next-mark : NextMark t m l n to
    next-mark =
        let F = marked_forest t m in
        let b : ℕ = ancestor t l low.at in
        let hb : b < size t = ancestor-in t l low.at h in
        let k : ℕ = marks_above t m b - to in
        let r : Risen b k = risen b k hb low.marked (omega arith) in
        let i : ℕ = r.at + low.at in
        let q : ancestor t b r.at ≡ ancestor t l i = ancestor-add t l low.at r.at in
        let w : i ≤ depth t l = omega (arith, r.within, ancestor-depth t l low.at h low.within) in
        let e : m (ancestor t l i) ≡ true = ap m (sym q) ∙ r.marked in
        let d : marks_above t m (rise (marked_up t m) b k) + k ≡ marks_above t m b =
        rise-depth (size t) (marked_up t m) (marks_above t m) (marks-ascend t m) b k hb (omega arith) in
        let a : rise (marked_up t m) b k ≡ ancestor t l i = r.is ∙ q in
        let d' : marks_above t m (ancestor t l i) + k ≡ marks_above t m b = rw a at d in
        let f = placed i w e (omega (arith, low.count)) in
        record {
          moves = climbed.moves;
          found = rw low.is climbed.found;
          at = i;
          within = f.0;
          inside = w;
          ends = rw low.is (climbed.ends ∙ a);
          marked = e;
          highest = f.2;
          left = f.1;
          count = climbed.count ∙ ap (λ (x : ℕ). move_count x to) (let y : marks_above t m b ≡ marks_at t m l - 1 =
              omega (arith, low.count) in y);
        }

    pub next-mark-few : length next-mark.moves ≤ 3 * digits (height t)
    next-mark-few =
        omega (
          arith,
          next-mark.count,
          move_count-bound (marks_at t m l - 1) to (height t) (omega arith)
              (omega (arith, marks_at-is t m l, marks_above-le t m l, depth-height t l h, bit_le (m l))),
        )

    -- within document 01's limits
    pub next-mark-limit : size t ≤ 65535 → length next-mark.moves ≤ 45
    next-mark-limit s = omega (arith, next-mark-few, digits-limit (height t) (height-limit t s))
