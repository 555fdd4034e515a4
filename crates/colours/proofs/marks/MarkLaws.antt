-- The laws of marked nodes on a path.
--     marks-add, marks-suc, marks-at   counts over a path in two parts
--     marks-le                         a count is at most the nodes counted
--     nearest, nearest-none            the lowest marked node of a path
--     lowest                           the lowest marked node at v or above
--     marks-ascend                     the forest of marked nodes ascends: it has document 01's jumps and climbs
--     marked_up-marked, -unmarked, marks_above-..   a node's row from its parent's: what a build writes
use Prim.Native.Nat.{ℕ, zero, suc, ◌+◌, ◌-◌, ◌≤◌, ◌<◌}
use mathlib.Core.Path.{◌≡◌, refl, sym, ap, ◌∙◌}
use mathlib.Core.Bool.{Bool, true, false, cond}
use native.Mathlib.Omega.{arith}
use native.Mathlib.Decide.{ℕ_discrete}
use Rattle.trees.specs.Tree.{Tree, size}
use Rattle.trees.specs.Numbering.{parent, depth, ancestor}
use Rattle.trees.proofs.NodeLaws.{up}
use Rattle.trees.proofs.JumpLaws.{ancestor-in, ancestor-depth}
use Rattle.trees.proofs.MapLaws.{ancestor-parent}
use Rattle.trees.specs.Ascents.{Ascends}
pub use Rattle.state_sets.proofs.SetLaws.{bit_le}
use Rattle.colours.specs.marks.Marks.{bit, marks_in, marks_above, marks_at, nearest_in, marked_up, lowest_at}

pub bit-zero : (b : Bool) → bit b ≡ 0 → b ≡ false
bit-zero true e = absurd (omega arith)
bit-zero false e = refl

module _ (t : Tree) (m : ℕ → Bool) where
  -- ---- counts

  pub marks-zero : (v : ℕ) → marks_in t m v 0 ≡ 0
  unfolding marks_in
  marks-zero v = refl

  pub marks-suc : (v k : ℕ) → marks_in t m v (suc k) ≡ bit (m v) + marks_in t m (parent t v) k
  unfolding marks_in
  marks-suc v k = refl

  pub marks_at-is : (v : ℕ) → marks_at t m v ≡ bit (m v) + marks_above t m v
  unfolding marks_at marks_above
  marks_at-is v = marks-suc v (depth t v)

  pub marks-le : (v k : ℕ) → marks_in t m v k ≤ k
  marks-le v zero = omega (arith, marks-zero v)
  marks-le v (suc k) = omega (arith, marks-suc v k, bit_le (m v), marks-le (parent t v) k)

  pub marks_above-le : (v : ℕ) → marks_above t m v ≤ depth t v
  unfolding marks_above
  marks_above-le v = marks-le (parent t v) (depth t v)

  pub marks-add : (v a b : ℕ) → marks_in t m v (a + b) ≡ marks_in t m v a + marks_in t m (ancestor t v a) b
  unfolding ancestor
  marks-add v zero b = let e : 0 + b ≡ b = omega arith in rw e (omega (arith, marks-zero v))
  marks-add v (suc a) b =
      let e : suc a + b ≡ suc (a + b) = omega arith in
      rw e (omega (
        arith,
        marks-suc v (a + b),
        marks-suc v a,
        marks-add (parent t v) a b,
        ap (λ (u : ℕ). marks_in t m u b) (ancestor-parent t v a),
      ))

  -- in two parts, by the length of the whole
  pub marks-split : (v a b k : ℕ) → a + b ≡ k → marks_in t m v k ≡ marks_in t m v a + marks_in t m (ancestor t v a) b
  marks-split v a b k e = ap (marks_in t m v) (sym e) ∙ marks-add v a b

  pub marks-at : (v i : ℕ) → v < size t → i ≤ depth t v → marks_at t m v ≡ marks_in t m v i + marks_at t m (ancestor t v i)
  unfolding marks_at
  marks-at v i h l =
      marks-split v i (suc (depth t (ancestor t v i))) (suc (depth t v)) (omega (arith, ancestor-depth t v i h l))

  -- one node more
  pub marks-one : (v i : ℕ) → marks_in t m v (suc i) ≡ marks_in t m v i + bit (m (ancestor t v i))
  marks-one v i =
      omega (
        arith,
        marks-split v i 1 (suc i) (omega arith),
        marks-suc (ancestor t v i) 0,
        marks-zero (parent t (ancestor t v i)),
      )

  pub marks-mono : (v i k : ℕ) → i ≤ k → marks_in t m v i ≤ marks_in t m v k
  marks-mono v i k h = omega (arith, marks-split v i (k - i) k (omega arith))

  -- ---- the lowest marked node of a path

  pub record Nearest (d v k : ℕ) : Type 0 where
    pub at : ℕ
    pub within : at < k
    pub is : nearest_in t m d v k ≡ ancestor t v at
    pub marked : m (ancestor t v at) ≡ true
    pub before : marks_in t m v at ≡ 0

  pub nearest : (d v k : ℕ) → 0 < marks_in t m v k → Nearest d v k
  unfolding nearest_in ancestor
  nearest d v zero h = absurd (omega (arith, marks-zero v))
  nearest d v (suc k) h = go (m v) refl (nearest d (parent t v) k)
    where
      go : (b : Bool) → m v ≡ b → (0 < marks_in t m (parent t v) k → Nearest d (parent t v) k) → Nearest d v (suc k)
      go true e ih = record { at = 0; within = omega arith; is = rw e; marked = e; before = marks-zero v }
      go false e ih =
          let z : bit (m v) ≡ 0 = ap bit e in
          let r : Nearest d (parent t v) k = ih (omega (arith, marks-suc v k)) in
          let q : ancestor t (parent t v) r.at ≡ ancestor t v (suc r.at) = ancestor-parent t v r.at in
          record {
            at = suc r.at;
            within = omega (arith, r.within);
            is = ap (λ (x : Bool). cond x v (nearest_in t m d (parent t v) k)) e ∙ r.is ∙ q;
            marked = ap m (sym q) ∙ r.marked;
            before = omega (arith, marks-suc v r.at, r.before);
          }

  pub nearest-none : (d v k : ℕ) → marks_in t m v k ≡ 0 → nearest_in t m d v k ≡ d
  unfolding nearest_in
  nearest-none d v zero e = refl
  nearest-none d v (suc k) e =
      let z : m v ≡ false = bit-zero (m v) (omega (arith, marks-suc v k)) in
      rw z (nearest-none d (parent t v) k (omega (arith, marks-suc v k)))

  -- with a marked node on the path the value for none is not taken
  nearest-same : (d e u k : ℕ) → 0 < marks_in t m u k → nearest_in t m d u k ≡ nearest_in t m e u k
  unfolding nearest_in
  nearest-same d e u zero l = absurd (omega (arith, marks-zero u))
  nearest-same d e u (suc k) l = go (m u) refl (nearest-same d e (parent t u) k)
    where
      go : (b : Bool) → m u ≡ b
          → (0 < marks_in t m (parent t u) k → nearest_in t m d (parent t u) k ≡ nearest_in t m e (parent t u) k)
          → cond (m u) u (nearest_in t m d (parent t u) k) ≡ cond (m u) u (nearest_in t m e (parent t u) k)
      go true q ih = rw q
      go false q ih = let z : bit (m u) ≡ 0 = ap bit q in rw q (ih (omega (arith, marks-suc u k)))

  -- ---- above a node

  nearest-up : (v : ℕ) → 0 < marks_above t m v → Nearest v (parent t v) (depth t v)
  unfolding marks_above
  nearest-up v l = nearest v (parent t v) (depth t v) l

  -- the lowest marked node above v, as one of its ancestors
  pub record MarkedUp (v : ℕ) : Type 0 where
    pub at : ℕ
    pub within : at ≤ depth t v
    pub is : marked_up t m v ≡ ancestor t v at
    pub marked : m (ancestor t v at) ≡ true
    pub count : marks_above t m (ancestor t v at) + 1 ≡ marks_above t m v

  pub marked-up : (v : ℕ) → v < size t → 0 < marks_above t m v → MarkedUp v
  unfolding marked_up
  marked-up v h l =
      let r : Nearest v (parent t v) (depth t v) = nearest-up v l in
      let q : ancestor t (parent t v) r.at ≡ ancestor t v (suc r.at) = ancestor-parent t v r.at in
      let k : m (ancestor t v (suc r.at)) ≡ true = ap m (sym q) ∙ r.marked in
      record {
        at = suc r.at;
        within = omega (arith, r.within);
        is = r.is ∙ q;
        marked = k;
        count = counts r.at r.within r.before k;
      }
    where
      counts : (i : ℕ) → i < depth t v → marks_in t m (parent t v) i ≡ 0 → m (ancestor t v (suc i)) ≡ true
          → marks_above t m (ancestor t v (suc i)) + 1 ≡ marks_above t m v
      counts i a b c =
          let z : bit (m (ancestor t v (suc i))) ≡ 1 = ap bit c in
          omega (
            arith,
            marks-at v (suc i) h a,
            marks-suc v i,
            marks_at-is v,
            marks_at-is (ancestor t v (suc i)),
          )

  pub marked_up-none : (v : ℕ) → marks_above t m v ≡ 0 → marked_up t m v ≡ v
  unfolding marked_up marks_above
  marked_up-none v e = nearest-none v (parent t v) (depth t v) e

  pub marked_up-in : (v : ℕ) → v < size t → marked_up t m v < size t
  marked_up-in v h = elim (ℕ_discrete (marks_above t m v) 0) [
    | yes e ↦ rw (marked_up-none v e) h
    | no e ↦ (let r : MarkedUp v = marked-up v h (omega arith) in rw r.is (ancestor-in t v r.at h))
  ]

  pub marks-ascend : Ascends (size t) (marked_up t m) (marks_above t m)
  marks-ascend = record {
    inside = marked_up-in;
    rises = λ v h l. (let r : MarkedUp v = marked-up v h l in rw r.is r.count);
    top = λ v h e. marked_up-none v e;
  }

  -- ---- at a node or above

  pub record Lowest (l : ℕ) : Type 0 where
    pub at : ℕ
    pub within : at ≤ depth t l
    pub is : lowest_at t m l ≡ ancestor t l at
    pub marked : m (ancestor t l at) ≡ true
    pub count : marks_above t m (ancestor t l at) + 1 ≡ marks_at t m l

  pub lowest : (l : ℕ) → l < size t → 0 < marks_at t m l → Lowest l
  unfolding lowest_at ancestor
  lowest l h c = go (m l) refl
    where
      go : (b : Bool) → m l ≡ b → Lowest l
      go true e =
          let z : bit (m l) ≡ 1 = ap bit e in
          record { at = 0; within = omega arith; is = rw e; marked = e; count = omega (arith, marks_at-is l) }
      go false e =
          let z : bit (m l) ≡ 0 = ap bit e in
          let r : MarkedUp l = marked-up l h (omega (arith, marks_at-is l)) in
          record {
            at = r.at;
            within = r.within;
            is = ap (λ (x : Bool). cond x l (marked_up t m l)) e ∙ r.is;
            marked = r.marked;
            count = omega (arith, r.count, marks_at-is l);
          }

  pub lowest-in : (l : ℕ) → l < size t → 0 < marks_at t m l → lowest_at t m l < size t
  lowest-in l h c = let r : Lowest l = lowest l h c in rw r.is (ancestor-in t l r.at h)

  -- ---- a node's row from its parent's

  module _ (v : ℕ) (h : v + 1 < size t) where
    deeper : depth t v ≡ suc (depth t (parent t v))
    deeper = omega (arith, (up t v h).deeper)

    pub marks_above-down : marks_above t m v ≡ marks_at t m (parent t v)
    unfolding marks_above marks_at
    marks_above-down = ap (marks_in t m (parent t v)) deeper

    pub marked_up-marked : m (parent t v) ≡ true → marked_up t m v ≡ parent t v
    unfolding marked_up nearest_in
    marked_up-marked e = ap (nearest_in t m v (parent t v)) deeper ∙ rw e

    pub marked_up-unmarked : m (parent t v) ≡ false → 0 < marks_above t m (parent t v)
        → marked_up t m v ≡ marked_up t m (parent t v)
    unfolding marked_up nearest_in marks_above
    marked_up-unmarked e l =
        let p : ℕ = parent t v in
        ap (nearest_in t m v p) deeper ∙ rw e (nearest-same v p (parent t p) (depth t p) l)
