-- What is left to do of the definition's work gives the whole.
use Rattle.products.proofs.agreement.reachable.LabelsLoop.{LabelsLoop}
use Rattle.products.proofs.agreement.reachable.over_labels.Given as goal

abbrev pub invariant-loop-a : goal.invariant-loop-a
invariant-loop-a l = LabelsLoop l.first l.second l.s1 l.s2 l.k l.i l.j l.p l.q l.fn.t l.t l.a
