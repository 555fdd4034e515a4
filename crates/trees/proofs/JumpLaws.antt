-- The laws of jumps and ancestors in a tree: those of parents that ascend (proofs/AscentLaws), of which a tree's are an
-- instance.
--     ancestor-in, -depth, -add   where n parents lead; ancestor-above: to a node of no smaller number
--     jump-root, jump-rule        the two-distances rule by nodes, as document 01 has it
--     depth-jump, jump-is         a jump leads to the ancestor of depth jump_depth; jump_in, jump_above
-- The laws of jump_depth are passed on from proofs/JumpDepthLaws.
use Prim.Native.Nat.{ℕ, zero, suc, ◌+◌, ◌-◌, ◌≤◌, ◌<◌}
use mathlib.Core.Path.{◌≡◌, refl, sym, ap, ◌∙◌}
use native.Mathlib.Omega.{arith}
use native.Mathlib.Decide.{ℕ_discrete}
use Rattle.trees.specs.Tree.{Tree, size}
use Rattle.trees.specs.Numbering.{parent, depth, ancestor}
use Rattle.trees.specs.Jumps.{two_distances, jump, jump_depth}
use Rattle.trees.specs.Ascents.{rise, jump_by}
use Rattle.trees.proofs.NodeLaws.{up, parent-root, depth-root}
use Rattle.trees.proofs.AscentLaws.{rise-in, rise-depth, rise-add}
use Rattle.trees.proofs.AscentLaws.{jump_by-is, jump_by-in, depth-jump_by, jump_by-top, jump_by-rule}
use Rattle.trees.proofs.TreeAscends.{tree-ascends, ancestor-rise, jump-tree}
pub use Rattle.trees.proofs.JumpDepthLaws.{two_distances-le, jump_depth-le, jump_depth-zero, jump_depth-suc}

module _ (t : Tree) where
  -- ---- laws of ancestors

  pub ancestor-in : (v n : ℕ) → v < size t → ancestor t v n < size t
  ancestor-in v n h = rw (ancestor-rise t v n) (rise-in (size t) (parent t) (depth t) (tree-ascends t) v n h)

  pub ancestor-above : (v n : ℕ) → v < size t → v ≤ ancestor t v n
  unfolding ancestor
  ancestor-above v zero h = omega arith
  ancestor-above v (suc n) h = go (ancestor t v n) (ancestor-in v n h) (ancestor-above v n h)
    where
      go : (u : ℕ) → u < size t → v ≤ u → v ≤ parent t u
      go u l a = elim (ℕ_discrete (u + 1) (size t)) [
        | yes e ↦ omega (arith, parent-root t u e)
        | no e ↦ omega (arith, (up t u (omega arith)).above)
      ]

  pub ancestor-depth : (v n : ℕ) → v < size t → n ≤ depth t v → depth t (ancestor t v n) + n ≡ depth t v
  ancestor-depth v n h l =
      rw (ancestor-rise t v n) (rise-depth (size t) (parent t) (depth t) (tree-ascends t) v n h l)

  pub ancestor-add : (v m n : ℕ) → ancestor t (ancestor t v m) n ≡ ancestor t v (n + m)
  ancestor-add v m n =
      ancestor-rise t (ancestor t v m) n ∙ ap (λ (u : ℕ). rise (parent t) u n) (ancestor-rise t v m)
      ∙ rise-add (size t) (parent t) (depth t) (tree-ascends t) v m n ∙ sym (ancestor-rise t v (n + m))

  -- ---- the laws of the jump

  pub jump-is : (v d : ℕ) → v < size t → jump_depth (depth t v) ≡ d → jump t v ≡ ancestor t v (depth t v - d)
  jump-is v d h e =
      jump-tree t v ∙ jump_by-is (size t) (parent t) (depth t) (tree-ascends t) v d h e
      ∙ sym (ancestor-rise t v (depth t v - d))

  pub jump_in : (v : ℕ) → v < size t → jump t v < size t
  jump_in v h = rw (jump-tree t v) (jump_by-in (size t) (parent t) (depth t) (tree-ascends t) v h)

  pub jump_above : (v : ℕ) → v < size t → v ≤ jump t v
  jump_above v h =
      let n : ℕ = depth t v - jump_depth (depth t v) in
      rw (jump-is v (jump_depth (depth t v)) h refl) (ancestor-above v n h)

  pub depth-jump : (v : ℕ) → v < size t → depth t (jump t v) ≡ jump_depth (depth t v)
  depth-jump v h = rw (jump-tree t v) (depth-jump_by (size t) (parent t) (depth t) (tree-ascends t) v h)

  pub jump-root : (v : ℕ) → v + 1 ≡ size t → jump t v ≡ v
  jump-root v e =
      jump-tree t v
      ∙ jump_by-top (size t) (parent t) (depth t) (tree-ascends t) v (omega arith) (depth-root t v e)

  pub jump-rule : (v : ℕ) → v + 1 < size t
      → jump t v
      ≡ two_distances (depth t (parent t v)) (depth t (jump t (parent t v))) (depth t (jump t (jump t (parent t v))))
      (jump t (jump t (parent t v))) (parent t v)
  jump-rule v h =
      let far : ℕ = jump_by (parent t) (depth t) (parent t v) in
      rw (jump-tree t v, jump-tree t (parent t v), jump-tree t far)
      (jump_by-rule (size t) (parent t) (depth t) (tree-ascends t) v (omega arith) (omega (arith, (up t v h).deeper)))
