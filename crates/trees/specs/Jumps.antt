-- Jumps: the skew-binary jump pointers of a tree.
--
-- two_distances d j k far near == far where d - j equals j - k, else near
-- jump t v == document 01's jump of node v; the root's is the root
-- jump_depth d == the depth to which a node at depth d jumps: by the same rule, which depends on depths alone
--
-- Both count down a number that is large enough; the equations without it are jump-root, jump-rule, jump_depth-zero and
-- jump_depth-suc (proofs/JumpLaws), and nothing later looks at the count.
use Rattle.std.specs.Prelude.{ℕ, zero, suc, ◌-◌, cond, eqb}
use Rattle.trees.specs.Tree.{Tree}
use Rattle.trees.specs.Numbering.{parent, depth}

abbrev pub two_distances : {X : Type 0} → ℕ → ℕ → ℕ → X → X → X
two_distances d j k far near = cond (eqb (d - j) (j - k)) far near

-- "The root's parent and jump are itself. For another node with parent p: if depth(p) - depth(jump p) equals depth(jump p) -
-- depth(jump of jump p), its jump is the jump of jump p; else p."
unfoldable pub jump_within : ℕ → Tree → ℕ → ℕ
jump_within zero t v = v
jump_within (suc f) t v =
    two_distances (depth t (parent t v)) (depth t (jump_within f t (parent t v))) (depth t (jump_within f t (jump_within f t (parent t v))))
    (jump_within f t (jump_within f t (parent t v))) (parent t v)

unfoldable pub jump : Tree → ℕ → ℕ
jump t v = jump_within (depth t v) t v

unfoldable pub jump_depth_in : ℕ → ℕ → ℕ
jump_depth_in zero d = 0
jump_depth_in (suc f) zero = 0
jump_depth_in (suc f) (suc d) = two_distances d (jump_depth_in f d) (jump_depth_in f (jump_depth_in f d)) (jump_depth_in f (jump_depth_in f d)) d

unfoldable pub jump_depth : ℕ → ℕ
jump_depth d = jump_depth_in d d
