-- Where the maps of a node's two children are compared.
--
-- PairPlaced ls node_table inn s k b v left row col x == left is v's left child, its children's steps begin at row and
--   col, and x is 0 exactly where v's state follows from its children's
use Rattle.std.specs.Prelude.{ℕ, ◌≡◌, List, eqb, get_or}
use Rattle.tables.specs.node_tables.inner.UpPass.{left_of}
use Rattle.tables.specs.StateCells.{state_cell}
use Rattle.tables.specs.inner.MapPairs.{row_of, col_of}
use Rattle.tables.specs.inner.States.{inner_state}

pub record PairPlaced (ls node_table inn : List ℕ) (s k : ℕ) (b : List ℕ) (v left row col x : ℕ) : Type 0 where
  pub left_is : left ≡ left_of node_table v
  pub row_is : row ≡ row_of ls node_table b s k v
  pub col_is : col ≡ col_of ls b s v
  pub state_is : eqb x 0 ≡ eqb (state_cell s b v) (inner_state node_table b inn s k v (get_or ls v 0))
