-- Numbers as built lead nowhere outside.
--     up-marked, jump-marked   a link among marked nodes leads to a marked one
--     built-in-range           so nothing of numbers as built stops a descent
use Prim.Native.Nat.{ℕ, suc, ◌-◌, ◌≤◌, ◌<◌}
use mathlib.Core.Path.{◌≡◌, refl, sym, ap, ◌∙◌}
use mathlib.Core.Bool.{Bool, true}
use mathlib.Core.List.{List}
use mathlib.Core.Logic.{inl, inr}
use native.Mathlib.Omega.{arith}
use borrow.Author.Tests.{ltb-true}
use Rattle.trees.specs.Tree.{Tree, size}
use Rattle.trees.specs.Jumps.{jump_depth}
use Rattle.trees.specs.LinkOutOfRange.{LinkOutOfRange, jump_outside, jump_flat, parent_outside, parent_flat}
use Rattle.trees.proofs.SkewBinary.{jump_depth-lt}
use Rattle.trees.specs.Ascents.{rise, jump_by}
use Rattle.colours.specs.marks.Marks.{marks_above, marked_up}
use Rattle.trees.proofs.AscentLaws.{rise-in, rise-depth, jump_by-is, jump_by-in, depth-jump_by}
use Rattle.colours.proofs.marks.MarkLaws.{MarkedUp, marked-up, marked_up-in, marks-ascend}
use Rattle.colours.specs.Copies.{lands_at, falls_at}
use Rattle.colour_tables.specs.ColourCells.{cell_table}
use Rattle.colour_tables.specs.AsBuilt.{ColourCells}
use Rattle.colour_tables.specs.OutOfRange.{ColourOutOfRange, link, level}

-- ---- links lead to marked nodes

module _ (t : Tree) (m : ℕ → Bool) where
  pub up-marked : (v : ℕ) → v < size t → 0 < marks_above t m v → m (marked_up t m v) ≡ true
  up-marked v h d = let u : MarkedUp t m v = marked-up t m v h d in ap m u.is ∙ u.marked

  rise-marked : (v k : ℕ) → v < size t → k < marks_above t m v → m (rise (marked_up t m) v (suc k)) ≡ true
  unfolding rise
  rise-marked v k h l =
      up-marked (rise (marked_up t m) v k)
      (rise-in (size t) (marked_up t m) (marks_above t m) (marks-ascend t m) v k h)
      (omega (arith, rise-depth (size t) (marked_up t m) (marks_above t m) (marks-ascend t m) v k h (omega arith)))

  pub jump-marked : (v : ℕ) → v < size t → 0 < marks_above t m v → m (jump_by (marked_up t m) (marks_above t m) v) ≡ true
  jump-marked v h d =
      let j : ℕ = jump_depth (marks_above t m v) in
      let k : ℕ = marks_above t m v - j - 1 in
      let low : jump_depth (marks_above t m v) < marks_above t m v = jump_depth-lt (marks_above t m v) d in
      let e : marks_above t m v - j ≡ suc k = omega (arith, low) in
      ap m (jump_by-is (size t) (marked_up t m) (marks_above t m) (marks-ascend t m) v j h refl
      ∙ ap (rise (marked_up t m) v) e)
      ∙ rise-marked v k h (omega (arith, low))

-- ---- numbers as built

module _ (n : ℕ) (step : ℕ → ℕ → ℕ) (t : Tree) (nums : List ℕ) (C : ColourCells n step t nums) where
  module _ (c : ℕ) (p : 0 < c) (b : c < n) where
    abbrev m : ℕ → Bool
    m = falls_at n step t c

    links-in-range : LinkOutOfRange ((cell_table (size t) nums).forest c) → ⊥
    links-in-range (jump_outside v h o) =
        omega (
          arith,
          (C c p b v h).jumps,
          jump_by-in (size t) (marked_up t m) (marks_above t m) (marks-ascend t m) v h,
        )
    links-in-range (jump_flat v h d e) =
        let i : jump_by (marked_up t m) (marks_above t m) v < size t =
        jump_by-in (size t) (marked_up t m) (marks_above t m) (marks-ascend t m) v h in
        let f = rw (C c p b v h).jumps at e in
        omega (
          arith,
          f,
          (C c p b v h).depths,
          (C c p b (jump_by (marked_up t m) (marks_above t m) v) i).depths,
          depth-jump_by (size t) (marked_up t m) (marks_above t m) (marks-ascend t m) v h,
          jump_depth-lt (marks_above t m v) (omega (arith, (C c p b v h).depths)),
        )
    links-in-range (parent_outside v h o) = omega (arith, (C c p b v h).parents, marked_up-in t m v h)
    links-in-range (parent_flat v h d e) =
        let i : marked_up t m v < size t = marked_up-in t m v h in
        let f = rw (C c p b v h).parents at e in
        omega (
          arith,
          f,
          (C c p b v h).depths,
          (C c p b (marked_up t m v) i).depths,
          (marks-ascend t m).rises v h (omega (arith, (C c p b v h).depths)),
        )

    -- where the colour falls, the table lands it on a lower one
    falls-there : (v : ℕ) → v < size t → falls_at n step t c v ≡ true → c ≤ (cell_table (size t) nums).lands c v → ⊥
    falls-there v h e o = omega (arith, ltb-true (lands_at n step t c v) c e, (C c p b v h).lands)

  pub built-in-range : ColourOutOfRange (size t) n (cell_table (size t) nums) → ⊥
  built-in-range (link c p b o) = links-in-range c p b o
  built-in-range (level c w v p b h d (inl e) o) =
      let q : marked_up t (falls_at n step t c) w ≡ v = sym (e ∙ (C c p b w h).parents) in
      falls-there c p b v (rw (← q) (marked_up-in t (m c p b) w h))
      (ap (m c p b) (sym q) ∙ up-marked t (m c p b) w h (omega (arith, (C c p b w h).depths))) o
  built-in-range (level c w v p b h d (inr e) o) =
      let q : jump_by (marked_up t (falls_at n step t c)) (marks_above t (falls_at n step t c)) w ≡ v =
      sym (e ∙ (C c p b w h).jumps) in
      falls-there c p b v
      (rw (← q) (jump_by-in (size t) (marked_up t (m c p b)) (marks_above t (m c p b)) (marks-ascend t (m c p b)) w h))
      (ap (m c p b) (sym q) ∙ jump-marked t (m c p b) w h (omega (arith, (C c p b w h).depths))) o
