-- Values that lead outside the plan, the states or the labels.
--
-- BranchOutOfRange p r node_table bytes == such a value in the inputs of a branch question: what 18 means. Tables as
--   built have none (proofs/AskRange).
--
-- "18 means that a value read leads outside the plan, the states or the labels, or a climb doesn't rise."
use Rattle.std.specs.Prelude.{ℕ, ◌≤◌, ◌<◌, List, get_or}
use Rattle.trees.specs.LinkOutOfRange.{LinkOutOfRange}
use Rattle.formats.specs.Plan.{node_count, labels_within}
use Rattle.formats.specs.Rules.{state_count, label_count, branch_automaton}
use Rattle.tables.specs.node_tables.Cells.{cell_forest}
use Rattle.tables.specs.StateCells.{map_cell}

pub data BranchOutOfRange (p r node_table state_table : List ℕ) : Type 0 where
  -- outside the plan, or not rising
  link : LinkOutOfRange (cell_forest (node_count p) node_table) → BranchOutOfRange p r node_table state_table
  -- outside the states
  map : (v q : ℕ) → v < node_count p → q < state_count r → state_count r ≤ map_cell (state_count r) state_table v q → BranchOutOfRange p r node_table state_table
  step : (q a : ℕ) → q < state_count r → a < label_count r → state_count r ≤ (branch_automaton r).step q a → BranchOutOfRange p r node_table state_table
  -- outside the labels
  label : (v : ℕ) → v < node_count p → label_count r ≤ get_or (labels_within p) v 0 → BranchOutOfRange p r node_table state_table
