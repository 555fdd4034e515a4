-- One move of a climb, as its function has it.
--
-- step_on X v to q == the node that the next move from v to depth `to` leads to, with what it makes of state q; none
--   where there is no move, or a value read leads outside the states or the labels
-- landed s x == a node and its state as they are returned: none where the number returned is not below s
-- ClimbArgs .. == v is one of the nodes and q a state; ParentArgs .. == so is p one of the nodes
use Rattle.std.specs.Prelude.{ℕ, ◌<◌, cond, List, ltb}
use Rattle.std.proofs.Math.Option.{Option, none, some}
use Rattle.trees.specs.Climb.{Move, target, next_move, and_then}
use Rattle.tables.specs.node_tables.Cells.{cell_forest}
use Rattle.tables.specs.declared.climb.Landed.{Landed}
use Rattle.tables.specs.Climbs.{View, move_on}
use Rattle.tables.specs.inner.PathViews.{PathArgs}

-- what the move m makes of state q, and where
unfoldable pub land_on : View → ℕ → Move → Option Landed
land_on X q m = and_then (move_on X m q) (λ x. some (record { node = target (cell_forest X.n X.node_table) m; state = x }))

unfoldable pub step_on : View → ℕ → ℕ → ℕ → Option Landed
step_on X v to q = and_then (next_move (cell_forest X.n X.node_table) v to) (land_on X q)

unfoldable pub landed : ℕ → Landed → Option Landed
landed s x = cond (ltb x.state s) (some x) none

pub record ClimbArgs (n s k : ℕ) (ls inn node_table state_table : List ℕ) (v q : ℕ) : Type 0 where
  pub path : PathArgs n s k ls inn node_table state_table
  pub at : v < n
  pub state : q < s

pub record ParentArgs (n s k : ℕ) (ls inn node_table state_table : List ℕ) (v p q : ℕ) : Type 0 where
  pub path : PathArgs n s k ls inn node_table state_table
  pub at : v < n
  pub up : p < n
  pub state : q < s
