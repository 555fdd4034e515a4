-- Whether any of the eight is busy depends on those still to come.
use Rattle.std.proofs.Common.{◌≡◌}
use Rattle.screens.specs.ScreenCalls.{any_runs}
use Rattle.capi_screens.specs.RunLayout.{busy}
use Rattle.capi_screens.proofs.load.any_busy.Given as goal

abbrev pub invariant-loop-i : goal.invariant-loop-i
invariant-loop-i l = any_runs 8 (busy l.records) ≡ any_runs l.i (busy l.records)
