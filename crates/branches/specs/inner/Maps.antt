-- One node's map in a branch table: how it follows from the maps above it, and what reading it needs.
--
-- step_cell s b p j st k a q == the state after the maps of j and then p, and then label a
-- node_map .. v q == node v's map at q: a step by its own label where its jump is its parent; else the map of the
--   parent's jump, the parent's map, and then that step, since a word is read from above
-- StepRowArgs, NodeArgs == what writing or comparing one map needs
-- Mapped .. == the maps of the nodes i, .. n - 1 are the automaton's, for every tree and automaton so given
use Rattle.std.specs.Prelude.{ℕ, ◌+◌, ◌*◌, ◌≤◌, ◌<◌, ◌≡◌, cond, List, eqb, length, get_or}
use Rattle.trees.specs.Tree.{Tree}
use Rattle.trees.specs.Automaton.{WordAutomaton}
use Rattle.trees.specs.Tables.{branch_map}
use Rattle.formats.specs.Layout.{node_columns}
use Rattle.tables.specs.node_tables.Cells.{parent_cell, jump_cell}
use Rattle.tables.specs.StateCells.{map_cell}
use Rattle.tables.specs.inner.Rows.{RowIn}
use Rattle.tables.specs.inner.MapTable.{MapsWritten}
use Rattle.branches.specs.inner.BranchGiven.{BranchGiven}

abbrev pub step_cell : ℕ → List ℕ → ℕ → ℕ → List ℕ → ℕ → ℕ → ℕ → ℕ
step_cell s b p j st k a q = get_or st (map_cell s b p (map_cell s b j q) * k + a) 0

unfoldable pub node_map : List ℕ → List ℕ → List ℕ → ℕ → ℕ → List ℕ → ℕ → ℕ → ℕ
node_map ls node_table st s k b v q =
    cond (eqb (jump_cell node_table v) (parent_cell node_table v))
    (get_or st (get_or ls v 0 + q * k) 0)
    (step_cell s b (parent_cell node_table v) (jump_cell node_table (parent_cell node_table v)) st k (get_or ls v 0) q)

pub record StepRowArgs (b : List ℕ) (s v p j l k a : ℕ) : Type 0 where
  pub room : RowIn (length b) s v
  pub near_room : RowIn (length b) s p
  pub far_room : RowIn (length b) s j
  pub near_other : p ≡ v → ⊥
  pub far_other : j ≡ v → ⊥
  pub far_below : (q : ℕ) → q < s → map_cell s b j q < s
  pub inside : (q : ℕ) → q < s → map_cell s b p q * k + a < l

pub record NodeArgs (ls node_table st : List ℕ) (s k : ℕ) (b : List ℕ) (v : ℕ) : Type 0 where
  pub label : v < length ls
  pub links : v * node_columns + node_columns ≤ length node_table
  pub parent_links : parent_cell node_table v * node_columns + node_columns ≤ length node_table
  pub near : (q : ℕ) → q < s → get_or ls v 0 + q * k < length st
  pub far : StepRowArgs b s v (parent_cell node_table v) (jump_cell node_table (parent_cell node_table v)) (length st) k (get_or ls v 0)

abbrev pub Mapped : List ℕ → List ℕ → List ℕ → ℕ → ℕ → ℕ → ℕ → List ℕ → List ℕ → Type 0
Mapped ls node_table st s k n i before after =
    (B : WordAutomaton) (t : Tree) → BranchGiven B t ls node_table st s k n → MapsWritten s n (branch_map B t) i before after
