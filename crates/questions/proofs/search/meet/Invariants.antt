-- From node x on the search finds what it finds from node v on. The depth falls at each move.
use Rattle.tables.specs.node_tables.Cells.{depth_cell}
use Rattle.questions.proofs.MeetCases.{Searching}
use Rattle.questions.proofs.search.meet.Given as goal

abbrev pub invariant-loop-x : goal.invariant-loop-x
invariant-loop-x l = Searching l.n l.node_table l.u l.v l.x

abbrev pub decreases-loop-x : goal.decreases-loop-x
decreases-loop-x l = depth_cell l.node_table l.x
