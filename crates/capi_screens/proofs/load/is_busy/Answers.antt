-- `capi_screens::load::is_busy` meets its contract.
use Rattle.std.proofs.Common.{ap, not}
use Rattle.capi_screens.proofs.RestLaws.{not_valid, valid-runs, valid-some}
use Rattle.capi_screens.proofs.load.is_busy.Goals as goal

pub returns-then-not-valid_bytes : goal.returns-then-not-valid_bytes
returns-then-not-valid_bytes c = not_valid _ _ c.valid_bytes.ensures (ap not c.if-not-valid_bytes.true)

pub bounds-rec-0 : goal.bounds-rec-0
bounds-rec-0 c = valid-some _ _ c.valid_bytes.ensures (ap not c.if-not-valid_bytes.false)

pub returns : goal.returns
returns c = valid-runs _ _ c.valid_bytes.ensures (ap not c.if-not-valid_bytes.false)
