-- A table as built leads nowhere outside the plan, and its links rise: what 18 is given for is not there.
--     children-inside      an inner node of the tree has its two children in the plan
--     cell-links-in-range      no parent or jump strays
--     cells-in-range     no number does
use Prim.Native.Nat.{ℕ, ◌+◌, ◌-◌, ◌<◌}
use mathlib.Core.Path.{◌≡◌, refl, sym, ap, ◌∙◌}
use mathlib.Core.Bool.{true}
use mathlib.Core.List.{List}
use mathlib.Core.Logic.{◌⊎◌, inl, inr}
use native.Mathlib.Omega.{arith}
use native.Mathlib.Decide.{ℕ_discrete}
use lib.Dec.{leb, ltb}
use lib.ListN.{get_or}
use borrow.Author.Tests.{le-leb, lt-ltb}
use Rattle.trees.specs.Tree.{Tree, size, kinds_of}
use Rattle.trees.specs.Numbering.{sub, parent, depth, is_in_subtree}
use Rattle.trees.specs.Jumps.{jump, jump_depth}
use Rattle.trees.specs.Climb.{forest_of}
use Rattle.trees.specs.LinkOutOfRange.{LinkOutOfRange, jump_outside, jump_flat, parent_outside, parent_flat}
use Rattle.trees.proofs.NodeLaws.{up, inner, sub-leaf, sub-root, below_root}
use Rattle.trees.proofs.JumpLaws.{jump_in, jump-is, depth-jump}
use Rattle.trees.proofs.SkewBinary.{jump_depth-lt}
use Rattle.trees.proofs.IntervalLaws.{ancestor-interval}
use Rattle.trees.proofs.LinkRangeLaws.{tree-links-in-range}
use Rattle.list_laws.proofs.BoolLaws.{true-false, and_both}
use Rattle.tables.specs.node_tables.Cells.{parent_cell, jump_cell, depth_cell, size_cell, cell_forest, is_in_subtree_on}
use Rattle.tables.specs.node_tables.NodeCells.{NodeCells}
use Rattle.tables.specs.node_tables.OutOfRange.{Childless, NodeTableOutOfRange, link, childless, apart}

module _ (t : Tree) (b : List ℕ) (L : NodeCells t b) where
  pub children-inside : (x : ℕ) → x < size t → (get_or (kinds_of t) x 0 ≡ 0 → ⊥) → Childless b x → ⊥
  children-inside x h k c =
      let I = inner t x h k in
      let s = L.sizes (x - 1) (omega arith) in
      elim c [ inl z ↦ omega (arith, I.at) | inr z ↦ omega (arith, I.at, s) ]

  -- ---- parents and jumps

  out-of-range-tree : LinkOutOfRange (cell_forest (size t) b) → LinkOutOfRange (forest_of t)
  out-of-range-tree (jump_outside v h o) = jump_outside v h (omega (arith, L.jumps v h))
  out-of-range-tree (jump_flat v h d e) =
      jump_flat v h (omega (arith, L.depths v h))
      (omega (arith, L.depths v h, ap (depth_cell b) (L.jumps v h), L.depths (jump t v) (jump_in t v h)))
  out-of-range-tree (parent_outside v h o) = parent_outside v h (omega (arith, L.parents v h))
  out-of-range-tree (parent_flat v h d e) =
      let z : 0 < depth t v = omega (arith, L.depths v h) in
      let u = up t v (below_root t v h z) in
      parent_flat v h z (omega (arith, L.depths v h, ap (depth_cell b) (L.parents v h), L.depths (parent t v) u.below))

  pub cell-links-in-range : LinkOutOfRange (cell_forest (size t) b) → ⊥
  cell-links-in-range s = tree-links-in-range t (out-of-range-tree s)

  -- ---- the nodes that they lead to

  parent-inner : (v : ℕ) → v < size t → 0 < depth t v → get_or (kinds_of t) (parent t v) 0 ≡ 0 → ⊥
  parent-inner v h d e = omega (arith, (up t v (below_root t v h d)).inside)

  -- a leaf has nothing below it
  jump-inner : (v : ℕ) → v < size t → 0 < depth t v → get_or (kinds_of t) (jump t v) 0 ≡ 0 → ⊥
  jump-inner v h d e =
      let n : ℕ = depth t v - jump_depth (depth t v) in
      let j = jump-is t v (jump_depth (depth t v)) h refl in
      let w = ancestor-interval t (jump t v) v n h (omega arith) (sym j) in
      let one : size (sub t (jump t v)) ≡ 1 = ap size (sub-leaf t (jump t v) (jump_in t v h) e) in
      let same : jump t v ≡ v = omega (arith, w.0, w.1) in
      omega (arith, depth-jump t v h, ap (depth t) same, jump_depth-lt (depth t v) d)

  led : (v x : ℕ) → v < size t → 0 < depth t v → (x ≡ parent_cell b v) ⊎ (x ≡ jump_cell b v) → Childless b x → ⊥
  led v x h d (inl e) c =
      let p : x ≡ parent t v = e ∙ L.parents v h in
      children-inside x (omega (arith, (up t v (below_root t v h d)).below))
      (λ k. parent-inner v h d (ap (λ (i : ℕ). get_or (kinds_of t) i 0) (sym p) ∙ k)) c
  led v x h d (inr e) c =
      let p : x ≡ jump t v = e ∙ L.jumps v h in
      children-inside x (omega (arith, jump_in t v h))
      (λ k. jump-inner v h d (ap (λ (i : ℕ). get_or (kinds_of t) i 0) (sym p) ∙ k)) c

  -- ---- the top

  top-root : (v : ℕ) → v < size t → depth t v ≡ 0 → v + 1 ≡ size t
  top-root v h d = elim (ℕ_discrete (v + 1) (size t)) [
    | yes e ↦ e
    | no e ↦ absurd (omega (arith, (up t v (omega arith)).deeper))
  ]

  all-below : (v u : ℕ) → v < size t → u < size t → depth t v ≡ 0 → is_in_subtree_on b v u ≡ true
  unfolding is_in_subtree
  all-below v u h i d =
      let r = top-root v h d in
      let s : size_cell b v ≡ size t = L.sizes v h ∙ ap size (sub-root t v r) in
      and_both (leb u v) (ltb v (u + size_cell b v)) (le-leb u v (omega arith)) (lt-ltb v (u + size_cell b v) (omega arith))

  pub cells-in-range : NodeTableOutOfRange (size t) b → ⊥
  cells-in-range (link s) = cell-links-in-range s
  cells-in-range (childless v x h d e c) = led v x h (omega (arith, L.depths v h)) e c
  cells-in-range (apart v u h i d e) = true-false (sym (all-below v u h i (sym (L.depths v h) ∙ d)) ∙ e)
