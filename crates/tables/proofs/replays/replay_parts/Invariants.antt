-- The parts made so far lead to v, and the map is what their moves make of each state. The depth falls.
use Rattle.tables.specs.node_tables.Cells.{depth_cell}
use Rattle.tables.proofs.RememberLoop.{Joined}
use Rattle.tables.proofs.replays.replay_parts.Given as goal

abbrev pub invariant-loop-moves : goal.invariant-loop-moves
invariant-loop-moves l =
    Joined l.n l.s l.k l.labels l.steps l.node_table l.state_table l.from l.to l.map l.v l.links

abbrev pub decreases-loop-moves : goal.decreases-loop-moves
decreases-loop-moves l = depth_cell l.node_table l.v
