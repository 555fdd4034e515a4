-- `capi_screens::calls::whatif_screens_start` meets its contract.
use Rattle.capi_screens.proofs.ExportedLaws.{not-run, not-run-answer, names-start, beyond, beyond-answer}
use Rattle.capi_screens.proofs.StartReadLaws.{start-refused, start-on}
use native.Mathlib.Omega.{arith}
use Rattle.capi_screens.proofs.calls.whatif_screens_start.Goals as goal

pub returns-then-records-ne-RUN_BYTES : goal.returns-then-records-ne-RUN_BYTES
returns-then-records-ne-RUN_BYTES c =
    rw c.number.ensures
    (start-refused _ _ _ _ (not-run _ _ c.if-records-ne-RUN_BYTES.true) (not-run-answer _ _ c.if-records-ne-RUN_BYTES.true))

pub returns-then-screen-gt-LAST : goal.returns-then-screen-gt-LAST
returns-then-screen-gt-LAST c =
    let n = names-start _ _ _ _ _ in
    rw c.number-then-screen-gt-LAST.ensures
    (start-refused _ _ _ _ (beyond _ _ _ _ n (omega arith) c.if-screen-gt-LAST.true)
    (beyond-answer _ _ _ _ n (omega arith) c.if-screen-gt-LAST.true))

pub returns : goal.returns
returns c =
    start-on _ _ _ _ (names-start _ _ _ _ _) (omega arith) (omega arith) _ _ _ _ c.records-1.given.0
    c.whatif_start.ensures
