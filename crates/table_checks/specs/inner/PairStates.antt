-- The states and maps of a node's two children, tested at their parent with every index forced into range.
--
-- far_entry s b p j table base stride q == near_entry (tables) composed with the maps of node p and then of node j
-- rows_match == whether both children's maps are the steps to v (where the right child's jump is v), else the steps
--   composed with the maps of v and of its jump
-- pair_states == whether inner node v's state and its children's maps follow from their neighbours'
-- leaf_is == whether v's size and state are a leaf's
-- pair_is == whether pair_nodes and pair_states hold
-- TableRoom == what the tests need: room, and every byte of the state table below s
-- NodeRoom == besides, v is one of the n nodes and not the first; LeafRoom == besides, v is one of them
-- FarEntryArgs, RowsArgs, StateIn == what the comparisons of rows and the reading of a state need
use Rattle.std.specs.Prelude.{ℕ, ◌+◌, ◌-◌, ◌*◌, ◌≤◌, ◌<◌, ◌≡◌, Bool, cond, ◌&&◌, List, eqb, length, get_or}
use Rattle.formats.specs.Limits.{node_limit, state_limit}
use Rattle.formats.specs.Checks.{node_table_length, state_table_length}
use Rattle.tables.specs.node_tables.Cells.{jump_cell, size_cell}
use Rattle.tables.specs.node_tables.inner.UpPass.{left_of}
use Rattle.tables.specs.StateCells.{state_cell, map_cell}
use Rattle.tables.specs.inner.Rows.{RowIn, NearArgs}
use Rattle.tables.specs.inner.MapPairs.{row_of, col_of}
use Rattle.tables.specs.inner.Compare.{row_equals, near_entry}
use Rattle.tables.specs.inner.States.{RuleRuns, inner_state}
use Rattle.table_checks.specs.inner.PairNodes.{within, pair_nodes, PairArgs}
use Rattle.table_checks.specs.inner.Joins.{JoinArgs}

abbrev pub far_entry : ℕ → List ℕ → ℕ → ℕ → List ℕ → ℕ → ℕ → ℕ → ℕ
far_entry s b p j table base stride q = map_cell s b j (map_cell s b p (near_entry table base stride q))

unfoldable pub rows_match : List ℕ → List ℕ → ℕ → ℕ → List ℕ → ℕ → ℕ → ℕ → ℕ → ℕ → Bool
rows_match node_table inn s n b v l row col step =
    cond (eqb (jump_cell node_table (v - 1)) v)
    (row_equals s b (v - 1) (near_entry inn row 1) && row_equals s b l (near_entry inn col step))
    (row_equals s b (v - 1) (far_entry s b v (within n (jump_cell node_table v)) inn row 1)
    && row_equals s b l (far_entry s b v (within n (jump_cell node_table v)) inn col step))

unfoldable pub pair_states : List ℕ → List ℕ → List ℕ → ℕ → ℕ → ℕ → List ℕ → ℕ → Bool
pair_states ls node_table inn s k n b v =
    eqb (state_cell s b v) (inner_state node_table b inn s k v (get_or ls v 0))
    && rows_match node_table inn s n b v (left_of node_table v) (row_of ls node_table b s k v) (col_of ls b s v) (k * s)

unfoldable pub leaf_is : List ℕ → List ℕ → List ℕ → ℕ → List ℕ → ℕ → Bool
leaf_is ls node_table lv s b v = eqb (size_cell node_table v) 1 && eqb (state_cell s b v) (get_or lv (get_or ls v 0) 0)

unfoldable pub pair_is : List ℕ → List ℕ → List ℕ → ℕ → ℕ → ℕ → List ℕ → ℕ → Bool
pair_is ls node_table inn s k n b v = pair_nodes n node_table v && pair_states ls node_table inn s k n b v

pub record FarEntryArgs (s : ℕ) (b : List ℕ) (v p j : ℕ) (table : List ℕ) (base stride : ℕ) : Type 0 where
  pub room : RowIn (length b) s v
  pub first : RowIn (length b) s p
  pub second : RowIn (length b) s j
  pub inside : (q : ℕ) → q < s → base + q * stride < length table
  pub near_below : (q : ℕ) → q < s → near_entry table base stride q < s
  pub first_below : (q : ℕ) → q < s → map_cell s b p q < s

pub record RowsArgs (node_table inn : List ℕ) (s n : ℕ) (b : List ℕ) (v l row col step : ℕ) : Type 0 where
  pub links : PairArgs n node_table v
  pub right : NearArgs (length b) s (v - 1) (length inn) row 1
  pub left : NearArgs (length b) s l (length inn) col step
  pub maps : JoinArgs s b v (within n (jump_cell node_table v)) 16
  pub jump_below : (q : ℕ) → q < s → map_cell s b (within n (jump_cell node_table v)) q < s
  pub right_below : (q : ℕ) → q < s → near_entry inn row 1 q < s
  pub left_below : (q : ℕ) → q < s → near_entry inn col step q < s

pub record StateIn (s : ℕ) (b : List ℕ) (u : ℕ) : Type 0 where
  pub few : s ≤ state_limit
  pub at : u * (s + 1) < length b

-- plan, rules and tables within the limits, and every byte of the n rows is a state
pub record TableRoom (ls node_table lv inn : List ℕ) (s k n : ℕ) (b : List ℕ) : Type 0 where
  pub most : n ≤ node_limit
  pub count : length ls ≡ n
  pub below : (j : ℕ) → get_or ls j 0 < k
  pub link_room : node_table_length n ≤ length node_table
  pub rules : RuleRuns s k lv inn
  pub some : 0 < s
  pub room : state_table_length n s ≤ length b
  pub states : (j : ℕ) → j < state_table_length n s → get_or b j 0 < s

pub record NodeRoom (ls node_table lv inn : List ℕ) (s k n : ℕ) (b : List ℕ) (v : ℕ) : Type 0 where
  pub table : TableRoom ls node_table lv inn s k n b
  pub pos : 0 < v
  pub inside : v < n

pub record LeafRoom (ls node_table lv inn : List ℕ) (s k n : ℕ) (b : List ℕ) (v : ℕ) : Type 0 where
  pub table : TableRoom ls node_table lv inn s k n b
  pub inside : v < n
