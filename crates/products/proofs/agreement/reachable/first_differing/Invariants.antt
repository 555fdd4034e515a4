-- The first line that differs among the lines left is the first of all.
use Rattle.products.proofs.agreement.reachable.MarksLoop.{MarksLoop}
use Rattle.products.proofs.agreement.reachable.first_differing.Given as goal

abbrev pub invariant-loop-i : goal.invariant-loop-i
invariant-loop-i l = MarksLoop l.first l.second l.s2 l.s l.start l.i
