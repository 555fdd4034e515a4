-- The maps of a node's two children, written in the parent's iteration.
--
-- PairTo s f g r l i before after == the first i bytes of node r's map are f's, of node l's are g's, and no other byte is
--   changed
-- PairRowed s f g r l before after == node r's map is f's and node l's is g's, and no other byte is changed
-- row_of, col_of == where the steps of the right and of the left child of inner node v begin in the inner states
-- taken_on b s st w p x == x where the jump w is the parent p, else what the maps of p and of its jump make of it
-- right_value, left_value == the entries of both children's maps
-- PairsWritten s t f i before after == the root, and the nodes whose parent is i or a later one, have the maps f, and
--   no byte outside the maps is changed
-- Pairs ks ls b inn s k i before after == that, for the tree and the rule tables that the table before is prepared for
-- BlockMapped .. b e before after == the inner nodes b, .. e - 1 are done
-- NearPairArgs, FarPairArgs, PairArgs, BlockArgs == what the writers need
--
-- A node's parent comes after it, so a pass from the last inner node down has the maps of a node and of its jump when
-- it comes to the node.
use Rattle.std.specs.Prelude.{ℕ, ◌+◌, ◌-◌, ◌*◌, ◌≤◌, ◌<◌, ◌≡◌, cond, List, eqb, length, get_or}
use Rattle.trees.specs.Tree.{Tree, size}
use Rattle.trees.specs.Numbering.{parent}
use Rattle.trees.specs.Tables.{state_map}
use Rattle.formats.specs.Limits.{state_limit, label_limit}
use Rattle.formats.specs.Rules.{tree_automaton}
use Rattle.formats.specs.Checks.{node_table_length, state_table_length}
use Rattle.tables.specs.node_tables.Cells.{jump_cell, size_cell}
use Rattle.tables.specs.node_tables.inner.UpPass.{left_of}
use Rattle.tables.specs.StateCells.{state_cell, map_cell}
use Rattle.tables.specs.inner.MapTable.{NoMap}
use Rattle.tables.specs.inner.Maps.{Prepared, MapArgs}
use Rattle.tables.specs.inner.Rows.{NearArgs, FarArgs}

pub record PairTo (s : ℕ) (f g : ℕ → ℕ) (r l i : ℕ) (before after : List ℕ) : Type 0 where
  pub right : (q : ℕ) → q < i → map_cell s after r q ≡ f q
  pub left : (q : ℕ) → q < i → map_cell s after l q ≡ g q
  pub kept : (j : ℕ) → ((q : ℕ) → q < i → j ≡ r * (s + 1) + (1 + q) → ⊥)
      → ((q : ℕ) → q < i → j ≡ l * (s + 1) + (1 + q) → ⊥) → get_or after j 0 ≡ get_or before j 0

abbrev pub PairRowed : ℕ → (ℕ → ℕ) → (ℕ → ℕ) → ℕ → ℕ → List ℕ → List ℕ → Type 0
PairRowed s f g r l before after = PairTo s f g r l s before after

-- ---- one node's children

abbrev pub row_of : List ℕ → List ℕ → List ℕ → ℕ → ℕ → ℕ → ℕ
row_of ls b st s k v = (state_cell s st (left_of b v) * k + get_or ls v 0) * s

abbrev pub col_of : List ℕ → List ℕ → ℕ → ℕ → ℕ
col_of ls st s v = get_or ls v 0 * s + state_cell s st (v - 1)

abbrev pub taken_on : List ℕ → ℕ → List ℕ → ℕ → ℕ → ℕ → ℕ
taken_on b s st w p x = cond (eqb w p) x (map_cell s st (jump_cell b p) (map_cell s st p x))

-- both children have the same jump
unfoldable pub right_value : List ℕ → List ℕ → List ℕ → ℕ → ℕ → List ℕ → ℕ → ℕ → ℕ
right_value ls b inn s k st v q =
    taken_on b s st (jump_cell b (v - 1)) v (get_or inn (row_of ls b st s k v + q * 1) 0)

unfoldable pub left_value : List ℕ → List ℕ → List ℕ → ℕ → ℕ → List ℕ → ℕ → ℕ → ℕ
left_value ls b inn s k st v q =
    taken_on b s st (jump_cell b (v - 1)) v (get_or inn (col_of ls st s v + q * (k * s)) 0)

pub record NearPairArgs (m s r l n row col step : ℕ) : Type 0 where
  pub right : NearArgs m s r n row 1
  pub left : NearArgs m s l n col step
  pub apart : r ≡ l → ⊥

pub record FarPairArgs (st : List ℕ) (s v j r l : ℕ) (table : List ℕ) (row col step : ℕ) : Type 0 where
  pub right : FarArgs st s r v j table row 1
  pub left : FarArgs st s l v j table col step
  pub apart : r ≡ l → ⊥

pub record PairArgs (ls b inn : List ℕ) (s k : ℕ) (st : List ℕ) (v : ℕ) : Type 0 where
  pub few : s ≤ state_limit
  pub labels : k ≤ label_limit
  pub below : (j : ℕ) → get_or ls j 0 < k
  pub inner_count : length inn ≡ s * k * s
  pub inner_below : (j : ℕ) → get_or inn j 0 < s
  pub link_room : node_table_length (length ls) ≤ length b
  pub room : state_table_length (length ls) s ≤ length st
  pub pos : 0 < v
  pub inside : v < length ls
  pub right_in : size_cell b (v - 1) < v
  pub right_some : 0 < size_cell b (v - 1)
  pub jump_above : v ≤ jump_cell b v
  pub jump_inside : jump_cell b v < length ls
  pub state_below : (u : ℕ) → u < length ls → state_cell s st u < s
  pub map_below : (q : ℕ) → q < s → map_cell s st v q < s

-- ---- all nodes

pub record PairsWritten (s : ℕ) (t : Tree) (f : ℕ → ℕ → ℕ) (i : ℕ) (before after : List ℕ) : Type 0 where
  pub maps : (u q : ℕ) → u < size t → (u + 1 < size t → i ≤ parent t u) → q < s → map_cell s after u q ≡ f u q
  pub kept : (j : ℕ) → NoMap s (size t) j → get_or after j 0 ≡ get_or before j 0

abbrev pub Pairs : List ℕ → List ℕ → List ℕ → List ℕ → ℕ → ℕ → ℕ → List ℕ → List ℕ → Type 0
Pairs ks ls b inn s k i before after =
    (lv mk : List ℕ) (t : Tree) → Prepared s k lv inn mk t ks ls b before
    → PairsWritten s t (state_map (tree_automaton s k lv inn mk) t) i before after

-- for any initial buffer
abbrev pub BlockMapped : List ℕ → List ℕ → List ℕ → List ℕ → ℕ → ℕ → ℕ → ℕ → List ℕ → List ℕ → Type 0
BlockMapped ks ls b inn s k from to before after =
    (first : List ℕ) → Pairs ks ls b inn s k to first before → Pairs ks ls b inn s k from first after

pub record BlockArgs (ks ls b inn : List ℕ) (s k from to m : ℕ) (st : List ℕ) : Type 0 where
  pub first : List ℕ
  pub args : MapArgs ks ls b inn s k first
  pub done : Pairs ks ls b inn s k to first st
  pub same : length st ≡ length first
  pub order : from ≤ to
  pub inside : to ≤ length ks
  pub fits : to ≤ from + m
