-- The answer of one move of a climb.
--
-- next_move_of F m == the code's answer for the move m of forest F: by a jump or to a parent, with the node it leads to;
--   Stuck for none
-- rises_to F v u == whether u is a node of F and less deep than v
-- MoveArgs n b v == v is one of n nodes, and table b has room for them
--
-- "18 means that a value read leads outside the plan .. or a climb doesn't rise": that is Stuck.
use Rattle.std.specs.Prelude.{ℕ, ◌≤◌, ◌<◌, Bool, ◌&&◌, List, ltb, length}
use Rattle.std.proofs.Math.Option.{Option, none, some}
use Rattle.trees.specs.Climb.{Forest, Move, via_jump, to_parent}
use Rattle.formats.specs.Limits.{node_limit}
use Rattle.formats.specs.Checks.{node_table_length}
use Rattle.tables.specs.declared.node_tables.moves.NextMove.{NextMove}
use Rattle.tables.specs.declared.node_tables.moves.NextMove.TheVariants.{Jump, Parent, Stuck}

unfoldable pub next_move_of : Forest → Option Move → NextMove
next_move_of F none = Stuck
next_move_of F (some (via_jump v)) = Jump (F.jump v)
next_move_of F (some (to_parent v)) = Parent (F.parent v)

abbrev pub rises_to : Forest → ℕ → ℕ → Bool
rises_to F v u = ltb u F.nodes && ltb (F.depth u) (F.depth v)

pub record MoveArgs (n : ℕ) (b : List ℕ) (v : ℕ) : Type 0 where
  pub at : v < n
  pub most : n ≤ node_limit
  pub room : node_table_length n ≤ length b
