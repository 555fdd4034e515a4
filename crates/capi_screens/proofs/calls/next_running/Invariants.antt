-- What the screens still to come find from here on is what all eight find from the first on.
use Rattle.std.proofs.Common.{◌≡◌, ◌<◌, ◌-◌}
use Rattle.screens.specs.ScreenCalls.{next_running_in}
use Rattle.capi_screens.specs.RunLayout.{runs}
use Rattle.capi_screens.proofs.calls.next_running.Given as goal

abbrev pub invariant-loop : goal.invariant-loop
invariant-loop l =
    (l.at < 8) × (next_running_in (8 - l.counter) (runs l.records) l.at ≡ next_running_in 8 (runs l.records) l.fn.first)
