-- At each iteration the rest of the search gives the whole search's answer. The depth falls.
use Rattle.tables.specs.node_tables.Cells.{cell_forest, depth_cell}
use Rattle.colour_questions.proofs.path_drops.SearchLoop.{Searches}
use Rattle.colour_questions.proofs.path_drops.search.search.Given as goal

abbrev pub invariant-loop-u : goal.invariant-loop-u
invariant-loop-u l = Searches (cell_forest l.n l.nums) l.from l.to l.v l.links

abbrev pub decreases-loop-u : goal.decreases-loop-u
decreases-loop-u l = depth_cell l.nums l.v
