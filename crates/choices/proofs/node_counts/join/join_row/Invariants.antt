-- The right states before q are added.
use Rattle.choices.proofs.node_counts.JoinLoop.{RowJoining}
use Rattle.choices.proofs.node_counts.join.join_row.Given as goal

abbrev pub invariant-loop-q : goal.invariant-loop-q
invariant-loop-q l =
    RowJoining l.inner l.s l.k l.from l.to l.p l.x l.right l.initial.out l.out l.q
