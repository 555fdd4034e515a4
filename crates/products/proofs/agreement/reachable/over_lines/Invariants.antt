-- What is left to do of the definition's work gives the whole.
use Rattle.products.proofs.agreement.reachable.LinesLoop.{LinesLoop}
use Rattle.products.proofs.agreement.reachable.over_lines.Given as goal

abbrev pub invariant-loop-j : goal.invariant-loop-j
invariant-loop-j l =
    LinesLoop l.first l.second l.marks1 l.marks2 l.s1 l.s2 l.k l.n l.fn.t l.t l.j
