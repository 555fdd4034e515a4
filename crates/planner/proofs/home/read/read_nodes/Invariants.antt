-- The same is still to be written.
use Rattle.planner.specs.Siblings.{Siblings}
use Rattle.planner.specs.home.inner.Cells.{ReadArgs}
use Rattle.planner.proofs.home.ReadLoop.{Reading}
use Rattle.planner.proofs.home.read.read_nodes.Given as goal

abbrev pub invariant-loop-v : goal.invariant-loop-v
invariant-loop-v l = (f : Siblings) → ReadArgs f l.labels l.kinds l.initial.file l.n
    → Reading f l.labels l.kinds l.n l.initial.file l.v l.w.depth l.w.left l.w.run l.file
