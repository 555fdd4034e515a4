-- Document 01's samples of jumps and climbs, computed over the definitions.
--     jump_depth-samples   depths 1 to 7 jump to depths 0, 1, 0, 3, 4, 3, 0
--     jump-samples        so do the nodes of those depths in a tree, the comb
--     move_count-samples   a climb from depth 6 to 1 takes 3 moves, to 0 takes 2
--     climb-samples       and these are they, in the comb
--     digits-samples      32,767 has 15 binary digits, 0 none
use Prim.Native.Nat.{ℕ}
use mathlib.Core.Path.{◌≡◌, refl}
use mathlib.Core.List.{[], ◌∷◌}
use mathlib.Core.Option.{some}
use Rattle.trees.specs.Tree.{Tree, leaf, node}
use Rattle.trees.specs.Numbering.{split, parent, depth}
use Rattle.trees.specs.Jumps.{jump_within, jump, jump_depth_in, jump_depth}
use Rattle.trees.specs.Climb.{forest_of, via_jump, to_parent, next_move, climb_in, climb}
use Rattle.trees.specs.Climb.{next_depth, move_count_in, move_count, digits_in, digits}

pub jump_depth-samples :
    jump_depth 1 ∷ jump_depth 2 ∷ jump_depth 3 ∷ jump_depth 4 ∷ jump_depth 5 ∷ jump_depth 6 ∷ jump_depth 7 ∷ []
    ≡ 0 ∷ 1 ∷ 0 ∷ 3 ∷ 4 ∷ 3 ∷ 0 ∷ []
unfolding jump_depth jump_depth_in
jump_depth-samples = refl

-- a tree of 15 nodes whose right branch goes down to depth 7: the node of depth d on it is number 14 - d
abbrev pub comb : Tree
comb =
    node (leaf 0) 0 (node (leaf 0) 0 (node (leaf 0) 0 (node (leaf 0) 0
    (node (leaf 0) 0 (node (leaf 0) 0 (node (leaf 0) 0 (leaf 0)))))))

pub comb-depths :
    depth comb 13 ∷ depth comb 12 ∷ depth comb 11 ∷ depth comb 10 ∷ depth comb 9 ∷ depth comb 8 ∷ depth comb 7 ∷ []
    ≡ 1 ∷ 2 ∷ 3 ∷ 4 ∷ 5 ∷ 6 ∷ 7 ∷ []
unfolding depth split
comb-depths = refl

-- the depth of the jump of a node of the comb
abbrev pub lands : ℕ → ℕ
lands v = depth comb (jump comb v)

pub jump-samples :
    lands 13 ∷ lands 12 ∷ lands 11 ∷ lands 10 ∷ lands 9 ∷ lands 8 ∷ lands 7 ∷ [] ≡ 0 ∷ 1 ∷ 0 ∷ 3 ∷ 4 ∷ 3 ∷ 0 ∷ []
unfolding jump jump_within parent depth split
jump-samples = refl

pub move_count-samples : (move_count 6 1 ≡ 3) × (move_count 6 0 ≡ 2)
unfolding move_count move_count_in next_depth jump_depth jump_depth_in
move_count-samples = (refl, refl)

pub climb-samples :
    (climb (forest_of comb) 8 1 ≡ some (via_jump 8 ∷ to_parent 11 ∷ via_jump 12 ∷ []))
    × (climb (forest_of comb) 8 0 ≡ some (via_jump 8 ∷ via_jump 11 ∷ []))
unfolding climb climb_in next_move jump jump_within parent depth split
climb-samples = (refl, refl)

pub digits-samples : (digits 32767 ≡ 15) × (digits 0 ≡ 0)
unfolding digits digits_in
digits-samples = (refl, refl)
