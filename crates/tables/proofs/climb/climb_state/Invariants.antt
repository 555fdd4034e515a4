-- Before each iteration the rest of the climb gives the whole climb's answer. The depth falls.
use Rattle.tables.specs.node_tables.Cells.{depth_cell}
use Rattle.tables.specs.inner.PathViews.{path_view}
use Rattle.tables.proofs.ClimbLoop.{Climbing}
use Rattle.tables.proofs.climb.climb_state.Given as goal

abbrev pub invariant-loop-next : goal.invariant-loop-next
invariant-loop-next l =
    Climbing (path_view l.n l.s l.k l.labels l.inner l.node_table l.state_table) l.from l.to l.q l.v l.x l.links

abbrev pub decreases-loop-next : goal.decreases-loop-next
decreases-loop-next l = depth_cell l.node_table l.v
