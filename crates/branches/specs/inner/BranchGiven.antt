-- The inputs of the loops over a branch table's bytes, and what the loops leave.
--
-- BranchGiven B t ls node_table st s k n == the tree t of n nodes has the labels ls and the links node_table; the automaton B of s
--   states and k labels has the steps st
-- BranchArgs .. m == some tree and automaton are so given, within the limits, with labels below k, states below s and
--   m bytes of room
-- StatesFrom s f n i before after == the state bytes of the nodes i, .. n - 1 are f's, and no byte but the n state
--   bytes is changed
-- Stepped .. == those of the automaton on the words from the root, for every tree and automaton so given
use Rattle.std.specs.Prelude.{ℕ, ◌+◌, ◌*◌, ◌≤◌, ◌<◌, ◌≡◌, List, length, get_or}
use Rattle.trees.specs.Tree.{Tree, size, labels_of}
use Rattle.trees.specs.Automaton.{WordAutomaton}
use Rattle.trees.specs.Tables.{branch_state}
use Rattle.formats.specs.Limits.{state_limit}
use Rattle.formats.specs.Checks.{node_table_length, state_table_length}
use Rattle.tables.specs.node_tables.NodeCells.{NodeCells}
use Rattle.tables.specs.StateCells.{state_cell}

pub record BranchGiven (B : WordAutomaton) (t : Tree) (ls node_table st : List ℕ) (s k n : ℕ) : Type 0 where
  pub states : B.states ≡ s
  pub step : (q a : ℕ) → B.step q a ≡ get_or st (q * k + a) 0
  pub labels : labels_of t ≡ ls
  pub count : size t ≡ n
  pub links : NodeCells t node_table

pub record BranchArgs (ls node_table st : List ℕ) (s k n m : ℕ) : Type 0 where
  pub automaton : WordAutomaton
  pub tree : Tree
  pub lent : BranchGiven automaton tree ls node_table st s k n
  pub few : s ≤ state_limit
  pub node_table_room : node_table_length n ≤ length node_table
  pub room : state_table_length n s ≤ m
  pub steps_room : s * k ≤ length st
  pub steps_below : (j : ℕ) → get_or st j 0 < s
  pub labels_below : (j : ℕ) → get_or ls j 0 < k

pub record StatesFrom (s : ℕ) (f : ℕ → ℕ) (n i : ℕ) (before after : List ℕ) : Type 0 where
  pub cells : (v : ℕ) → i ≤ v → v < n → state_cell s after v ≡ f v
  pub kept : (j : ℕ) → ((v : ℕ) → v < n → j ≡ v * (s + 1) → ⊥) → get_or after j 0 ≡ get_or before j 0

abbrev pub Stepped : List ℕ → List ℕ → List ℕ → ℕ → ℕ → ℕ → ℕ → List ℕ → List ℕ → Type 0
Stepped ls node_table st s k n i before after =
    (B : WordAutomaton) (t : Tree) → BranchGiven B t ls node_table st s k n → StatesFrom s (branch_state B t) n i before after
