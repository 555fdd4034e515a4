-- The bytes passed are those of the first record, one time after the other.
use Rattle.capi_screens.proofs.CopyLaws.{Copied}
use Rattle.capi_screens.proofs.load.copy_first.Given as goal

abbrev pub invariant-loop-at : goal.invariant-loop-at
invariant-loop-at l = Copied l.initial.records l.records l.at
