-- What is left to do of the definition's work gives the whole.
use Rattle.products.proofs.agreement.reachable.LeavesLoop.{LeavesLoop}
use Rattle.products.proofs.agreement.reachable.over_leaves.Given as goal

abbrev pub invariant-loop-label : goal.invariant-loop-label
invariant-loop-label l = LeavesLoop l.first l.second l.s1 l.s2 l.k l.initial.t l.t l.label
