-- `capi_screens::calls::whatif_screens_read` meets its contract.
use Rattle.model.specs.Calls.{read}
use Rattle.capi_screens.proofs.ExportedLaws.{not-run-answer, names-read, beyond-answer}
use Rattle.capi_screens.proofs.StartReadLaws.{read-refused, read-on}
use native.Mathlib.Omega.{arith}
use Rattle.capi_screens.proofs.calls.whatif_screens_read.Goals as goal

pub returns-then-records-ne-RUN_BYTES : goal.returns-then-records-ne-RUN_BYTES
returns-then-records-ne-RUN_BYTES c =
    rw c.number.ensures (read-refused _ _ _ _ (not-run-answer _ _ c.if-records-ne-RUN_BYTES.true))

pub returns-then-screen-gt-LAST : goal.returns-then-screen-gt-LAST
returns-then-screen-gt-LAST c =
    rw c.number-then-screen-gt-LAST.ensures
    (read-refused _ _ _ _ (beyond-answer _ _ _ read (names-read _ _) (omega arith) c.if-screen-gt-LAST.true))

pub returns : goal.returns
returns c = read-on _ _ (omega arith) (omega arith) _ _ _ c.whatif_read.ensures
