-- A tree's parents and depths ascend, and its ancestors and jumps are theirs: the laws of jumps and climbs in a tree are
-- an instance of those of proofs/AscentLaws and proofs/AscentClimbs.
--     tree-ascends     a tree's parents and depths ascend
--     ancestor-rise    the ancestor n above is the node n parents above; jump-tree: a jump is that of these parents
--     tree-forest      so is the forest of a tree
use Prim.Native.Nat.{ℕ, zero, suc, ◌+◌, ◌<◌}
use mathlib.Core.Path.{◌≡◌, refl, ap, fun_ext}
use native.Mathlib.Omega.{arith}
use native.Mathlib.Decide.{ℕ_discrete}
use Rattle.trees.specs.Tree.{Tree, size}
use Rattle.trees.specs.Numbering.{parent, depth, ancestor}
use Rattle.trees.specs.Jumps.{jump, jump_within as tree_jump_in}
use Rattle.trees.specs.Climb.{Forest, forest_of}
use Rattle.trees.specs.Ascents.{rise, jump_within, jump_by, forest_by, Ascends}
use Rattle.trees.proofs.NodeLaws.{up, parent-root, below_root}

module _ (t : Tree) where
  pub tree-ascends : Ascends (size t) (parent t) (depth t)
  tree-ascends = record {
    inside = λ v h. elim (ℕ_discrete (v + 1) (size t)) [
      | yes e ↦ omega (arith, parent-root t v e)
      | no e ↦ (up t v (omega arith)).below
    ];
    rises = λ v h l. omega (arith, (up t v (below_root t v h l)).deeper);
    top = λ v h e. elim (ℕ_discrete (v + 1) (size t)) [
      | yes q ↦ parent-root t v q
      | no q ↦ absurd (omega (arith, (up t v (omega arith)).deeper))
    ];
  }

  pub ancestor-rise : (v n : ℕ) → ancestor t v n ≡ rise (parent t) v n
  unfolding ancestor rise
  ancestor-rise v zero = refl
  ancestor-rise v (suc n) = ap (parent t) (ancestor-rise v n)

  same : (f v : ℕ) → tree_jump_in f t v ≡ jump_within f (parent t) (depth t) v
  unfolding tree_jump_in jump_within
  same zero v = refl
  same (suc f) v = rw (same f (parent t v), same f (jump_within f (parent t) (depth t) (parent t v)))

  pub jump-tree : (v : ℕ) → jump t v ≡ jump_by (parent t) (depth t) v
  unfolding jump jump_by
  jump-tree v = same (depth t v) v

  pub tree-forest : ◌≡◌ {A = Forest} (forest_of t) (forest_by (size t) (parent t) (depth t))
  tree-forest =
      ap (λ (j : ℕ → ℕ). record { nodes = size t; parent = parent t; jump = j; depth = depth t }) (fun_ext jump-tree)
