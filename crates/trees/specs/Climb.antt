-- Climbs, over any table of parents, jumps and depths.
--
-- Forest == for each of the nodes below `nodes` a parent, a jump and a depth: a tree's (forest_of) or those of any table
-- Move == one link of a climb, by the jump of its node or to the parent of its node
-- climb F w t == the moves of a climb from node w to depth t, in order; none where a move would lead outside the forest or
--   not to a smaller depth (never in a tree)
-- climb_end F w ms == the node that the moves ms lead to from w
-- carry act ms x == what the moves ms make of x, one after the other; none where one of them makes nothing
-- walk step t v n x == what n steps to the parent make of x, from node v of t up
-- move_count d t == the number of moves from depth d to depth t in a tree: it depends on depths alone
-- digits n == the number of binary digits; 0 has none
--
-- climb, move_count and digits count down a number that is large enough; their equations without it are in proofs/ClimbLaws.
use Rattle.std.specs.Prelude.{ℕ, zero, suc, ◌+◌, ◌-◌, ◌/◌, Bool, cond, ◌&&◌, List, [], ◌∷◌, leb, ltb}
use Rattle.std.proofs.Math.Option.{Option, none, some}
use Rattle.trees.specs.Tree.{Tree, size}
use Rattle.trees.specs.Numbering.{parent, depth}
use Rattle.trees.specs.Jumps.{jump, jump_depth}

pub record Forest : Type 0 where
  pub nodes : ℕ
  pub parent : ℕ → ℕ
  pub jump : ℕ → ℕ
  pub depth : ℕ → ℕ

abbrev pub forest_of : Tree → Forest
forest_of t = record { nodes = size t; parent = parent t; jump = jump t; depth = depth t }

pub data Move : Type 0 where
  via_jump : ℕ → Move
  to_parent : ℕ → Move

abbrev pub target : Forest → Move → ℕ
target F (via_jump v) = F.jump v
target F (to_parent v) = F.parent v

-- a move from v, if it stays inside the forest and rises
abbrev pub rising : Forest → ℕ → Move → Option Move
rising F v m = cond (ltb (target F m) F.nodes && ltb (F.depth (target F m)) (F.depth v)) (some m) none

-- "take the jump if its depth is at least t, else the parent"
unfoldable pub next_move : Forest → ℕ → ℕ → Option Move
next_move F v t =
    cond (ltb (F.jump v) F.nodes) (rising F v (cond (leb t (F.depth (F.jump v))) (via_jump v) (to_parent v))) none

abbrev pub and_then : {X Y : Type 0} → Option X → (X → Option Y) → Option Y
and_then none f = none
and_then (some x) f = f x

abbrev pub before : Move → Option (List Move) → Option (List Move)
before m none = none
before m (some ms) = some (m ∷ ms)

-- "A climb from node w to depth t: while deeper than t, take the jump if its depth is at least t, else the parent.
-- Each move is one link."
unfoldable pub climb_in : ℕ → Forest → ℕ → ℕ → Option (List Move)
climb_in zero F v t = some []
climb_in (suc f) F v t =
    let onward = and_then (next_move F v t) (λ m. before m (climb_in f F (target F m) t)) in
    cond (ltb t (F.depth v)) onward (some [])

unfoldable pub climb : Forest → ℕ → ℕ → Option (List Move)
climb F w t = climb_in (F.depth w) F w t

abbrev pub climb_end : Forest → ℕ → List Move → ℕ
climb_end F w [] = w
climb_end F w (m ∷ ms) = climb_end F (target F m) ms

abbrev pub carry : {X : Type 0} → (Move → X → Option X) → List Move → X → Option X
carry act [] x = some x
carry act (m ∷ ms) x = and_then (act m x) (carry act ms)

unfoldable pub walk : {X : Type 0} → (ℕ → X → X) → Tree → ℕ → ℕ → X → X
walk step t v zero x = x
walk step t v (suc n) x = walk step t (parent t v) n (step v x)

-- where a move from depth d leads, on the way to depth t
unfoldable pub next_depth : ℕ → ℕ → ℕ
next_depth d t = cond (leb t (jump_depth d)) (jump_depth d) (d - 1)

unfoldable pub move_count_in : ℕ → ℕ → ℕ → ℕ
move_count_in zero d t = 0
move_count_in (suc f) d t = let onward = suc (move_count_in f (next_depth d t) t) in cond (ltb t d) onward 0

unfoldable pub move_count : ℕ → ℕ → ℕ
move_count d t = move_count_in d d t

unfoldable pub digits_in : ℕ → ℕ → ℕ
digits_in zero n = 0
digits_in (suc f) n = let more = suc (digits_in f (n / 2)) in cond (ltb 0 n) more 0

-- "Greatest depth 32,767 (root 0), so 15 binary digits. Depth 0 has none."
unfoldable pub digits : ℕ → ℕ
digits n = digits_in n n
