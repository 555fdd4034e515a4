-- Values that lead outside the plan or the states.
--
-- BranchColoursOutOfRange p r node_table numbers bytes == such a value in the inputs of a branch question by
--   colours: what 18 means
--
-- "18 means that a value read leads outside the plan, the states or the labels, or a climb doesn't rise."
use Rattle.std.specs.Prelude.{ℕ, ◌+◌, ◌*◌, ◌≤◌, ◌<◌, List, get_or}
use Rattle.formats.specs.Plan.{node_count}
use Rattle.formats.specs.Rules.{state_count}
use Rattle.tables.specs.node_tables.Cells.{parent_cell}
use Rattle.colours.specs.Colouring.{place_of}
use Rattle.colour_tables.specs.ColourCells.{copy_row, cell_table}
use Rattle.colour_tables.specs.OutOfRange.{ColourOutOfRange}

pub data BranchColoursOutOfRange (p r node_table numbers bytes : List ℕ) : Type 0 where
  -- outside the plan
  parent : (u : ℕ) → u < node_count p → node_count p ≤ parent_cell node_table u
      → BranchColoursOutOfRange p r node_table numbers bytes
  -- outside the plan, not rising, or to no fall, in the tables of the colours
  colour : ColourOutOfRange (node_count p) (state_count r) (cell_table (node_count p) numbers)
      → BranchColoursOutOfRange p r node_table numbers bytes
  -- outside the states: a copy in which no colour has state 0, or a state that is none
  start : (z : ℕ) → z < node_count p → state_count r ≤ place_of 0 (copy_row (state_count r) bytes z)
      → BranchColoursOutOfRange p r node_table numbers bytes
  state : (v c : ℕ) → v < node_count p → c < state_count r → state_count r ≤ get_or bytes (v * state_count r + c) 0
      → BranchColoursOutOfRange p r node_table numbers bytes
