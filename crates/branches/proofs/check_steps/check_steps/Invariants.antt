-- The state bytes from v on are the automaton's.
use Rattle.branches.specs.inner.BranchGiven.{Stepped}
use Rattle.branches.proofs.check_steps.check_steps.Given as goal

abbrev pub invariant-loop-v : goal.invariant-loop-v
invariant-loop-v l = Stepped l.labels l.node_table l.steps l.s l.k l.n l.v l.state_table l.state_table
