-- A climb that looks for the lowest common ancestor, for any numbers.
--
-- next_unless F stop v == a move from v that does not pass the goal: the jump unless `stop` holds there, else the parent; none where it
--   leads outside the forest or does not rise
-- search F stop v == the first node reached from v, v included, where `stop` holds; none where a move fails
-- meet_on n node_table u v == the lowest node above v, v included, that has u below it
--
-- Counts down the depth, which falls at each move. Looking for an ancestor counts no link.
use Rattle.std.specs.Prelude.{ℕ, zero, suc, Bool, cond, List, nat_lt}
use Rattle.std.proofs.Math.Option.{Option, none, some}
use Rattle.trees.specs.Climb.{Forest, Move, via_jump, to_parent, target, rising, and_then}
use Rattle.tables.specs.node_tables.Cells.{cell_forest, is_in_subtree_on}

unfoldable pub next_unless : Forest → (ℕ → Bool) → ℕ → Option Move
next_unless F stop v = cond (nat_lt (F.jump v) F.nodes) (rising F v (cond (stop (F.jump v)) (to_parent v) (via_jump v))) none

unfoldable pub search_in : ℕ → Forest → (ℕ → Bool) → ℕ → Option ℕ
search_in zero F stop v = cond (stop v) (some v) none
search_in (suc f) F stop v =
    let onward = and_then (next_unless F stop v) (λ m. search_in f F stop (target F m)) in
    cond (stop v) (some v) onward

unfoldable pub search : Forest → (ℕ → Bool) → ℕ → Option ℕ
search F stop v = search_in (F.depth v) F stop v

unfoldable pub meet_on : ℕ → List ℕ → ℕ → ℕ → Option ℕ
meet_on n node_table u v = search (cell_forest n node_table) (λ x. is_in_subtree_on node_table x u) v
