-- The counts of the states before q are carried.
use Rattle.choices.proofs.part_steps.CarryLoop.{Carrying}
use Rattle.choices.proofs.part_steps.carry.carry_counts.Given as goal

abbrev pub invariant-loop-q : goal.invariant-loop-q
invariant-loop-q l =
    Carrying l.n l.s l.k l.labels l.inner l.node_table l.state_table l.from l.to l.row l.initial.out l.out l.links l.q
