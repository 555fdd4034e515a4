-- The left states before p are added.
use Rattle.choices.proofs.node_counts.JoinLoop.{Joining}
use Rattle.choices.proofs.node_counts.join.join.Given as goal

abbrev pub invariant-loop-p : goal.invariant-loop-p
invariant-loop-p l =
    Joining l.inner l.s l.k l.from l.to l.left l.right l.initial.out l.out l.p
