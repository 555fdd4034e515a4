-- Jumps, of every tree (document 01), and the table of their lengths (document 02, S-3).
--     root-jumps, jump-by-rule       document 01's rule of the two distances, by nodes
--     depths-one-to-seven            where depths 1 to 7 jump
--     table-count, entry-by-rule     the table has 1,024 numbers, and each follows the rule from earlier ones
--     entry-is-jump, table-is-jumps  each is the length of a jump: by depth, and of every node of every tree
-- That the passes read the table for depths below 1,024 and the rule from there on is the contract of `child_jump`
-- (crate tables, node_tables). Climbs: FurtherStatements.
use Prim.Native.Nat.{ℕ, ◌+◌, ◌-◌, ◌<◌}
use mathlib.Core.Path.{◌≡◌, refl, sym, ap, ◌∙◌}
use mathlib.Core.List.{List, [], ◌∷◌}
use lib.ListN.{length, get_or}
use Rattle.trees.specs.Tree.{Tree, size}
use Rattle.trees.specs.Numbering.{parent, depth}
use Rattle.trees.specs.Jumps.{two_distances, jump, jump_depth}
use Rattle.trees.proofs.NodeLaws.{parent-root}
use Rattle.trees.proofs.JumpLaws.{jump-root, jump-rule, depth-jump}
use Rattle.trees.proofs.Samples.{jump_depth-samples}
use Rattle.tables.specs.node_tables.JumpLengths.{jump_lengths, length_at}
use Rattle.tables.proofs.node_tables.JumpLengthLaws as lengths

-- ---- the rule

-- "The root's parent and jump are itself."
root-jumps : (t : Tree) (v : ℕ) → v + 1 ≡ size t → (parent t v ≡ v) × (jump t v ≡ v)
root-jumps t v e = (parent-root t v e, jump-root t v e)

-- "For another node with parent p: if depth(p) - depth(jump p) equals depth(jump p) - depth(jump of jump p), its jump
-- is the jump of jump p; else p."
jump-by-rule : (t : Tree) (v : ℕ) → v + 1 < size t
    → jump t v
    ≡ two_distances (depth t (parent t v)) (depth t (jump t (parent t v))) (depth t (jump t (jump t (parent t v))))
    (jump t (jump t (parent t v))) (parent t v)
jump-by-rule = jump-rule

-- "Depths 1 to 7 jump to depths 0, 1, 0, 3, 4, 3, 0."
depths-one-to-seven : (t : Tree) (v : ℕ) → v < size t
    → (depth t v ≡ 1 → depth t (jump t v) ≡ 0) × (depth t v ≡ 2 → depth t (jump t v) ≡ 1)
    × (depth t v ≡ 3 → depth t (jump t v) ≡ 0) × (depth t v ≡ 4 → depth t (jump t v) ≡ 3)
    × (depth t v ≡ 5 → depth t (jump t v) ≡ 4) × (depth t v ≡ 6 → depth t (jump t v) ≡ 3)
    × (depth t v ≡ 7 → depth t (jump t v) ≡ 0)
depths-one-to-seven t v h = (
  lands 1 0 (at 0),
  lands 2 1 (at 1),
  lands 3 0 (at 2),
  lands 4 3 (at 3),
  lands 5 4 (at 4),
  lands 6 3 (at 5),
  lands 7 0 (at 6),
)
  where
    at : (i : ℕ)
        → get_or (jump_depth 1 ∷ jump_depth 2 ∷ jump_depth 3 ∷ jump_depth 4 ∷ jump_depth 5 ∷ jump_depth 6 ∷ jump_depth 7 ∷ [])
        i 0
        ≡ get_or (0 ∷ 1 ∷ 0 ∷ 3 ∷ 4 ∷ 3 ∷ 0 ∷ []) i 0
    at i = ap (λ (l : List ℕ). get_or l i 0) jump_depth-samples

    lands : (d to : ℕ) → jump_depth d ≡ to → depth t v ≡ d → depth t (jump t v) ≡ to
    lands d to e f = depth-jump t v h ∙ ap jump_depth f ∙ e

-- ---- the table

-- "a constant table of 1,024 numbers"
table-count : length jump_lengths ≡ 1024
unfolding jump_lengths
table-count = refl

-- "The table agrees with the rule at every entry."
entry-by-rule : (d : ℕ) → d < 1024 → get_or jump_lengths d 0 ≡ length_at d
entry-by-rule = lengths.entry-by-rule

entry-is-jump : (d : ℕ) → d < 1024 → get_or jump_lengths d 0 ≡ d - jump_depth d
entry-is-jump = lengths.entry-is-jump

-- "For depths below 1,024 the jump's length shall come from a constant table of 1,024 numbers"
table-is-jumps : (t : Tree) (v : ℕ) → v < size t → depth t v < 1024
    → depth t v - depth t (jump t v) ≡ get_or jump_lengths (depth t v) 0
table-is-jumps t v h l =
    ap (λ (d : ℕ). depth t v - d) (depth-jump t v h) ∙ sym (entry-is-jump (depth t v) l)
