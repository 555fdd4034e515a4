-- The climb of a branch question, on any inputs: on runs of labels and steps.
--
-- state_move s k ls st state_table m q == what the move m makes of state q, downwards: a jump applies its node's map, a
--   move to the parent its node's own label; none where a value read leads outside the states or the labels
-- carry_down act ms q == what the moves ms of a climb make of state q downwards, from the last to the first
-- replay_on .. l to q == the climb from node l to depth `to`, and what its moves make of q downwards: the state at l, with
--   the links and, by the table's depths, the nodes passed over; none where a value read is out of range, or the climb
--   does not rise
use Rattle.std.specs.Prelude.{ℕ, ◌+◌, ◌*◌, cond, List, [], ◌∷◌, ltb, length, get_or}
use Rattle.std.proofs.Math.Option.{Option, none, some}
use Rattle.trees.specs.Climb.{Move, via_jump, to_parent, and_then, climb}
use Rattle.trees.specs.Passed.{passed_by}
use Rattle.tables.specs.node_tables.Cells.{cell_forest}
use Rattle.tables.specs.declared.answers.Reached.{Reached}
use Rattle.tables.specs.StateCells.{map_cell}
use Rattle.tables.specs.Climbs.{below, reached}

unfoldable pub state_move : ℕ → ℕ → List ℕ → List ℕ → List ℕ → Move → ℕ → Option ℕ
state_move s k ls st state_table (via_jump v) q = below s (map_cell s state_table v q)
state_move s k ls st state_table (to_parent v) q =
    cond (ltb (get_or ls v 0) k) (below s (get_or st (q * k + get_or ls v 0) 0)) none

abbrev pub carry_down : (Move → ℕ → Option ℕ) → List Move → ℕ → Option ℕ
carry_down act [] q = some q
carry_down act (m ∷ ms) q = and_then (carry_down act ms q) (act m)

unfoldable pub replay_on : ℕ → ℕ → ℕ → List ℕ → List ℕ → List ℕ → List ℕ → ℕ → ℕ → ℕ → Option Reached
replay_on n s k ls st node_table state_table l to q =
    and_then (climb (cell_forest n node_table) l to) (λ ms.
    and_then (carry_down (state_move s k ls st state_table) ms q) (λ x.
    some (reached x (length ms) (passed_by (cell_forest n node_table) l ms))))
