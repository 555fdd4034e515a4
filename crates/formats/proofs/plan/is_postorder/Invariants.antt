-- Blocks of EightLoop.
use Rattle.formats.proofs.EightLoop.{Blocks}
use Rattle.formats.proofs.plan.is_postorder.Given as goal

abbrev pub invariant-loop-block : goal.invariant-loop-block
invariant-loop-block l = Blocks l.kinds l.waiting l.block
