-- The maps of a table of states: what the loop that writes them leaves, and what it needs.
--
-- Prepared s k lv inn mk t ks ls b e == kinds ks, labels ls and links b are the tree's, and the state bytes of e are
--   its run's
-- Mapped A t i before after == the nodes from i on have their maps, and no byte outside the maps is changed
-- near_base, near_step == where node v's step to its parent is in the inner states: entry q at near_base + q * near_step
-- near_value == that entry
-- Maps ks ls b inn s k i before after == Mapped, for the tree and the rule tables that the table before is prepared for
-- MapArgs == what fill_maps needs
--
-- A node is its parent's right child exactly where its number is one less. How both children's maps are written in
-- their parent's iteration is in MapPairs.
use Rattle.std.specs.Prelude.{ℕ, ◌+◌, ◌-◌, ◌*◌, ◌≤◌, ◌<◌, ◌≡◌, cond, List, [], eqb, length, get_or}
use Rattle.trees.specs.Tree.{Tree, kinds_of, labels_of, size}
use Rattle.trees.specs.Automaton.{Automaton, state}
use Rattle.trees.specs.Numbering.{sub, parent}
use Rattle.trees.specs.Jumps.{jump}
use Rattle.trees.specs.Tables.{state_map}
use Rattle.formats.specs.Limits.{node_limit}
use Rattle.formats.specs.Rules.{tree_automaton}
use Rattle.formats.specs.Checks.{node_table_length, state_table_length}
use Rattle.tables.specs.node_tables.Cells.{parent_cell, jump_cell, size_cell}
use Rattle.tables.specs.StateCells.{state_cell}
use Rattle.tables.specs.inner.States.{RuleRuns}
use Rattle.tables.specs.inner.MapTable.{MapsWritten}

pub record Prepared (s k : ℕ) (lv inn mk : List ℕ) (t : Tree) (ks ls b e : List ℕ) : Type 0 where
  pub kinds : kinds_of t ≡ ks
  pub labels : labels_of t ≡ ls
  pub parents : (v : ℕ) → v < size t → parent_cell b v ≡ parent t v
  pub jumps : (v : ℕ) → v < size t → jump_cell b v ≡ jump t v
  pub sizes : (v : ℕ) → v < size t → size_cell b v ≡ size (sub t v)
  pub states : (v : ℕ) → v < size t → state_cell s e v ≡ state (tree_automaton s k lv inn mk) (sub t v)

abbrev pub Mapped : Automaton → Tree → ℕ → List ℕ → List ℕ → Type 0
Mapped A t i before after = MapsWritten A.states (size t) (state_map A t) i before after

-- ---- one node

-- for a right child the left sibling's state and the label come first, for a left child the right sibling's state last
abbrev pub near_base : List ℕ → List ℕ → ℕ → ℕ → ℕ → ℕ → ℕ → ℕ
near_base b st s k v p a =
    cond (eqb (v + 1) p) ((state_cell s st (v - size_cell b v) * k + a) * s) (a * s + state_cell s st (p - 1))

abbrev pub near_step : ℕ → ℕ → ℕ → ℕ → ℕ
near_step s k v p = cond (eqb (v + 1) p) 1 (k * s)

unfoldable pub near_value : List ℕ → List ℕ → List ℕ → ℕ → ℕ → List ℕ → ℕ → ℕ → ℕ
near_value ls b inn s k st v q =
    get_or inn (near_base b st s k v (parent_cell b v) (get_or ls (parent_cell b v) 0) + q * near_step s k v (parent_cell b v)) 0

-- ---- all nodes

pub record MapArgs (ks ls b inn : List ℕ) (s k : ℕ) (st : List ℕ) : Type 0 where
  pub leaves : List ℕ
  pub tree : Tree
  pub prepared : Prepared s k leaves inn [] tree ks ls b st
  pub rules : RuleRuns s k leaves inn
  pub some : 0 < s
  pub most : length ks ≤ node_limit
  pub below : (j : ℕ) → get_or ls j 0 < k
  pub link_room : node_table_length (length ls) ≤ length b
  pub room : state_table_length (length ls) s ≤ length st

-- the same for every tree and rule table that the table before is prepared for
abbrev pub Maps : List ℕ → List ℕ → List ℕ → List ℕ → ℕ → ℕ → ℕ → List ℕ → List ℕ → Type 0
Maps ks ls b inn s k i before after =
    (lv mk : List ℕ) (t : Tree) → Prepared s k lv inn mk t ks ls b before
    → Mapped (tree_automaton s k lv inn mk) t i before after
