-- `capi_screens::calls::whatif_screens_cancel` meets its contract.
use Rattle.model.specs.Calls.{cancel}
use Rattle.capi_screens.proofs.ExportedLaws.{not-run, names-cancel, beyond, on-screen}
use native.Mathlib.Omega.{arith}
use Rattle.capi_screens.proofs.calls.whatif_screens_cancel.Goals as goal

pub returns-then-records-ne-RUN_BYTES : goal.returns-then-records-ne-RUN_BYTES
returns-then-records-ne-RUN_BYTES c = rw c.number.ensures (not-run _ _ c.if-records-ne-RUN_BYTES.true)

pub returns-then-screen-gt-LAST : goal.returns-then-screen-gt-LAST
returns-then-screen-gt-LAST c =
    rw c.number-then-screen-gt-LAST.ensures
    (beyond _ _ _ cancel (names-cancel _ _) (omega arith) c.if-screen-gt-LAST.true)

pub returns : goal.returns
returns c =
    on-screen _ _ _ cancel (names-cancel _ _) (omega arith) (omega arith) _ _ c.records-1.given.0
    c.whatif_cancel.ensures
