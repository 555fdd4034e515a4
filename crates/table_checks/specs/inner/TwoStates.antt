-- The map that both children's steps are composed with, for two states.
--
-- near_of node_table v == whether the right child's jump is node v
-- taken_entry node_table n b v x == x where it is, else what the maps of v and of its jump make of x
-- TwoArgs node_table n b v == what reading these two maps needs: both rows inside, their entries below 2
-- TwoMapped node_table n b v x y == x and y are the entries of that map, both below 2
use Rattle.std.specs.Prelude.{ℕ, ◌-◌, ◌<◌, ◌≡◌, Bool, cond, List, eqb}
use Rattle.tables.specs.node_tables.Cells.{jump_cell}
use Rattle.tables.specs.StateCells.{map_cell}
use Rattle.table_checks.specs.inner.PairNodes.{within, PairArgs}
use Rattle.table_checks.specs.inner.Joins.{JoinArgs}

abbrev pub near_of : List ℕ → ℕ → Bool
near_of node_table v = eqb (jump_cell node_table (v - 1)) v

abbrev pub taken_entry : List ℕ → ℕ → List ℕ → ℕ → ℕ → ℕ
taken_entry node_table n b v x =
    cond (near_of node_table v) x (map_cell 2 b (within n (jump_cell node_table v)) (map_cell 2 b v x))

pub record TwoArgs (node_table : List ℕ) (n : ℕ) (b : List ℕ) (v : ℕ) : Type 0 where
  pub links : PairArgs n node_table v
  pub maps : JoinArgs 2 b v (within n (jump_cell node_table v)) 16
  pub jump_below : (q : ℕ) → q < 2 → map_cell 2 b (within n (jump_cell node_table v)) q < 2

pub record TwoMapped (node_table : List ℕ) (n : ℕ) (b : List ℕ) (v x y : ℕ) : Type 0 where
  pub zero_is : x ≡ taken_entry node_table n b v 0
  pub one_is : y ≡ taken_entry node_table n b v 1
  pub zero_less : x < 2
  pub one_less : y < 2
