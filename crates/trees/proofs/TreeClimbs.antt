-- Climbs in a tree: never stuck, to the ancestor at the target depth, in move_count many moves; those of parents that
-- ascend (proofs/AscentClimbs), of which a tree's are an instance.
--     tree-next-jump, tree-next-parent   the next move
--     climb-tree                         there is a climb to each depth above; its end and its number of moves
--     climb-ends, climb-count            so for the moves of any climb that was found
--     climb-bound                        at most three moves for each binary digit of the tree's height
--     climb-limit                        so at most 45 with at most 65,535 nodes
--     climb-proper                       each move starts at a node other than the root
use Prim.Native.Nat.{ℕ, ◌+◌, ◌-◌, ◌*◌, ◌≤◌, ◌<◌}
use mathlib.Core.Path.{◌≡◌, sym, ap, ◌∙◌}
use mathlib.Core.List.{List, [], ◌∷◌}
use mathlib.Core.Option.{Option, some, some-injective}
use native.Mathlib.Omega.{arith}
use lib.ListN.{length}
use Rattle.trees.specs.Tree.{Tree, size, height}
use Rattle.trees.specs.Numbering.{parent, depth, ancestor}
use Rattle.trees.specs.Jumps.{jump_depth}
use Rattle.trees.specs.Climb.{Forest, forest_of, Move, via_jump, to_parent, target, next_move, climb, climb_end}
use Rattle.trees.specs.Climb.{move_count, digits}
use Rattle.trees.proofs.NodeLaws.{below_root}
use Rattle.trees.proofs.TreeAscends.{tree-ascends, ancestor-rise, tree-forest}
use Rattle.trees.proofs.AscentClimbs.{up-next-jump, up-next-parent, climb-up}
use Rattle.trees.proofs.MoveCount.{move_count-bound}
use Rattle.trees.proofs.HeightLaws.{depth-height, height-limit}
use Rattle.trees.proofs.Digits.{digits-limit}
use Rattle.trees.proofs.MoveLaws.{start, next_start, next-inside}
use Rattle.trees.proofs.ClimbLaws.{climb-cons}

module _ (t : Tree) where
  -- ---- the next move

  pub tree-next-jump : (v to : ℕ) → v < size t → to < depth t v → to ≤ jump_depth (depth t v)
      → next_move (forest_of t) v to ≡ some (via_jump v)
  tree-next-jump v to h l j =
      ap (λ (F : Forest). next_move F v to) (tree-forest t)
      ∙ up-next-jump (size t) (parent t) (depth t) (tree-ascends t) v to h l j

  pub tree-next-parent : (v to : ℕ) → v < size t → to < depth t v → jump_depth (depth t v) < to
      → next_move (forest_of t) v to ≡ some (to_parent v)
  tree-next-parent v to h l j =
      ap (λ (F : Forest). next_move F v to) (tree-forest t)
      ∙ up-next-parent (size t) (parent t) (depth t) (tree-ascends t) v to h l j

  -- ---- the climb

  pub record Climbed (w to : ℕ) : Type 0 where
    pub moves : List Move
    pub found : climb (forest_of t) w to ≡ some moves
    pub ends : climb_end (forest_of t) w moves ≡ ancestor t w (depth t w - to)
    pub count : length moves ≡ move_count (depth t w) to

  pub climb-tree : (w to : ℕ) → w < size t → to ≤ depth t w → Climbed w to
  climb-tree w to h l =
      let c = climb-up (size t) (parent t) (depth t) (tree-ascends t) w to h l in
      record {
        moves = c.moves;
        found = ap (λ (F : Forest). climb F w to) (tree-forest t) ∙ c.found;
        ends = ap (λ (F : Forest). climb_end F w c.moves) (tree-forest t) ∙ c.ends
            ∙ sym (ancestor-rise t w (depth t w - to));
        count = c.count;
      }

  module _ (w to : ℕ) (ms : List Move)
      (h : w < size t) (l : to ≤ depth t w) (e : climb (forest_of t) w to ≡ some ms) where
    found-is : (climb-tree w to h l).moves ≡ ms
    found-is = let c = climb-tree w to h l in some-injective c.moves ms (sym c.found ∙ e)

    pub climb-ends : climb_end (forest_of t) w ms ≡ ancestor t w (depth t w - to)
    climb-ends = ap (climb_end (forest_of t) w) (sym found-is) ∙ (climb-tree w to h l).ends

    pub climb-count : length ms ≡ move_count (depth t w) to
    climb-count = ap length (sym found-is) ∙ (climb-tree w to h l).count

    pub climb-bound : length ms ≤ 3 * digits (height t)
    climb-bound = omega (arith, climb-count, move_count-bound (depth t w) to (height t) l (depth-height t w h))

    -- within document 01's limits
    pub climb-limit : size t ≤ 65535 → length ms ≤ 45
    climb-limit n = omega (arith, climb-bound, digits-limit (height t) (height-limit t n))

  -- ---- where moves start

  abbrev pub Proper : List Move → Type 0
  Proper [] = Unit {0}
  Proper (m ∷ ms) = (start m + 1 < size t) × Proper ms

  pub climb-proper : (w to : ℕ) (ms : List Move) → w < size t → climb (forest_of t) w to ≡ some ms → Proper ms
  climb-proper w to [] h e = tt
  climb-proper w to (m ∷ ms) h e =
      let F = forest_of t in
      let s = climb-cons F w to m ms e in
      let b : w + 1 < size t = below_root t w h (omega (arith, s.deeper)) in (
        omega (arith, next_start F w to m s.next),
        climb-proper (target F m) to ms (next-inside F w to m s.next) s.more,
      )
