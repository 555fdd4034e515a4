-- `screens::in_place::load::is_busy` meets its contract.
use Rattle.std.proofs.Common.{ap, not}
use Rattle.screens.proofs.in_place.BusyLaws.{busy-broken, busy-valid}
use Rattle.screens.proofs.in_place.load.is_busy.Goals as goal

pub returns-then-not-valid : goal.returns-then-not-valid
returns-then-not-valid c = busy-broken _ _ c.valid.ensures (ap not c.if-not-valid.true)

pub returns : goal.returns
returns c = busy-valid _ _ _ c.valid.ensures (ap not c.if-not-valid.false)
    c.is_running.ensures
