-- x is added for each label before b.
use Rattle.choices.proofs.node_counts.AccumulateLoop.{Pouring}
use Rattle.choices.proofs.node_counts.join.accumulate.Given as goal

abbrev pub invariant-loop-b : goal.invariant-loop-b
invariant-loop-b l =
    Pouring l.inner l.s l.k l.from l.to l.p l.q l.x l.initial.out l.out l.b
