-- A node's row in the forest of marked nodes, from its parent's: what a build writes, from the root down.
--     row-root     the root's parent and jump are itself, at depth 0
--     row-marked   below a marked parent: that one, the jump by document 01's rule, one deeper
--     row-none     below a parent that is not marked and has no marked node above: itself
--     row_same     else the parent's row
--     jump_above, jump_inside, jump-depth   a jump leads to a node of a greater number, and not deeper
use Prim.Native.Nat.{ℕ, zero, suc, ◌+◌, ◌-◌, ◌≤◌, ◌<◌}
use mathlib.Core.Path.{◌≡◌, refl, sym, ap, ◌∙◌}
use mathlib.Core.Bool.{Bool, true, false}
use native.Mathlib.Omega.{arith}
use native.Mathlib.Nat.{le_refl}
use native.Mathlib.Decide.{ℕ_discrete}
use Rattle.trees.specs.Tree.{Tree, size}
use Rattle.trees.specs.Numbering.{parent}
use Rattle.trees.specs.Jumps.{two_distances, jump_depth}
use Rattle.trees.proofs.NodeLaws.{up, depth-root}
use Rattle.trees.proofs.JumpLaws.{ancestor-above, jump_depth-le}
use Rattle.trees.specs.Ascents.{rise, jump_by}
use Rattle.colours.specs.marks.Marks.{bit, marks_above, marked_up}
use Rattle.trees.proofs.AscentLaws.{rise-in, jump_by-is, jump_by-in, depth-jump_by, jump_by-top, jump_by-rule}
use Rattle.colours.proofs.marks.MarkLaws.{marks_above-le, marks_at-is, marks_above-down, marked_up-none, marked_up-marked}
use Rattle.colours.proofs.marks.MarkLaws.{marked_up-unmarked, MarkedUp, marked-up, marks-ascend}

module _ (t : Tree) (m : ℕ → Bool) where
  -- the jump of node v
  abbrev pub marked_jump : ℕ → ℕ
  marked_jump v = jump_by (marked_up t m) (marks_above t m) v

  -- node v's row is up, jump, depth
  pub record Row (v u j d : ℕ) : Type 0 where
    pub parents : marked_up t m v ≡ u
    pub jumps : marked_jump v ≡ j
    pub depths : marks_above t m v ≡ d

  -- none above
  top-row : (v : ℕ) → v < size t → marks_above t m v ≡ 0 → Row v v v 0
  top-row v h e = record {
    parents = marked_up-none t m v e;
    jumps = jump_by-top (size t) (marked_up t m) (marks_above t m) (marks-ascend t m) v h e;
    depths = e;
  }

  pub row-root : (v : ℕ) → v + 1 ≡ size t → Row v v v 0
  row-root v e = top-row v (omega arith) (omega (arith, marks_above-le t m v, depth-root t v e))

  -- the jump of a node with marked nodes above, by its parent among them
  jump-by : (v u : ℕ) → v < size t → 0 < marks_above t m v → marked_up t m v ≡ u
      → marked_jump v
      ≡ two_distances (marks_above t m u) (marks_above t m (marked_jump u)) (marks_above t m (marked_jump (marked_jump u)))
      (marked_jump (marked_jump u)) u
  jump-by v u h l e =
      jump_by-rule (size t) (marked_up t m) (marks_above t m) (marks-ascend t m) v h l
      ∙ ap (λ (x : ℕ). two_distances (marks_above t m x) (marks_above t m (marked_jump x))
      (marks_above t m (marked_jump (marked_jump x))) (marked_jump (marked_jump x)) x) e

  module _ (v : ℕ) (h : v + 1 < size t) where
    abbrev p : ℕ
    p = parent t v

    count : marks_above t m v ≡ bit (m p) + marks_above t m p
    count = marks_above-down t m v h ∙ marks_at-is t m p

    pub row-marked : m (parent t v) ≡ true
        → Row v (parent t v)
        (two_distances (marks_above t m (parent t v)) (marks_above t m (marked_jump (parent t v)))
        (marks_above t m (marked_jump (marked_jump (parent t v)))) (marked_jump (marked_jump (parent t v))) (parent t v))
        (marks_above t m (parent t v) + 1)
    row-marked e =
        let z : bit (m p) ≡ 1 = ap bit e in
        record {
          parents = marked_up-marked t m v h e;
          jumps = jump-by v p (omega arith) (omega (arith, count)) (marked_up-marked t m v h e);
          depths = omega (arith, count);
        }

    pub row-none : m (parent t v) ≡ false → marks_above t m (parent t v) ≡ 0 → Row v v v 0
    row-none e n = let z : bit (m p) ≡ 0 = ap bit e in top-row v (omega arith) (omega (arith, count))

    pub row_same : m (parent t v) ≡ false → 0 < marks_above t m (parent t v)
        → Row v (marked_up t m (parent t v)) (marked_jump (parent t v)) (marks_above t m (parent t v))
    row_same e l =
        let z : bit (m p) ≡ 0 = ap bit e in
        let u : marked_up t m v ≡ marked_up t m p = marked_up-unmarked t m v h e l in
        record {
          parents = u;
          jumps = jump-by v (marked_up t m p) (omega arith) (omega (arith, count)) u
              ∙ sym (jump-by p (marked_up t m p) (up t v h).below l refl);
          depths = omega (arith, count);
        }

  -- ---- jumps lead to greater node numbers, inside the tree and not deeper

  up_above : (v : ℕ) → v < size t → v ≤ marked_up t m v
  up_above v h = elim (ℕ_discrete (marks_above t m v) 0) [
    | yes e ↦ rw (marked_up-none t m v e) (le_refl v)
    | no e ↦ (let r : MarkedUp t m v = marked-up t m v h (omega arith) in rw r.is (ancestor-above t v r.at h))
  ]

  rise-above : (v k : ℕ) → v < size t → v ≤ rise (marked_up t m) v k
  unfolding rise
  rise-above v zero h = le_refl v
  rise-above v (suc k) h =
      omega (
        arith,
        rise-above v k h,
        up_above (rise (marked_up t m) v k) (rise-in (size t) (marked_up t m) (marks_above t m) (marks-ascend t m) v k h),
      )

  pub jump_above : (v : ℕ) → v < size t → v ≤ marked_jump v
  jump_above v h =
      rw (jump_by-is (size t) (marked_up t m) (marks_above t m) (marks-ascend t m) v (jump_depth (marks_above t m v)) h refl)
      (rise-above v (marks_above t m v - jump_depth (marks_above t m v)) h)

  pub jump_inside : (v : ℕ) → v < size t → marked_jump v < size t
  jump_inside v h = jump_by-in (size t) (marked_up t m) (marks_above t m) (marks-ascend t m) v h

  pub jump-depth : (v : ℕ) → v < size t → marks_above t m (marked_jump v) ≤ marks_above t m v
  jump-depth v h =
      omega (
        arith,
        depth-jump_by (size t) (marked_up t m) (marks_above t m) (marks-ascend t m) v h,
        jump_depth-le (marks_above t m v),
      )
