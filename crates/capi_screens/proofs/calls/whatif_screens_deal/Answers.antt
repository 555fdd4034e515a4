-- `capi_screens::calls::whatif_screens_deal` meets its contract. Each return cites the law of its answer.
use Rattle.std.proofs.Common.{arith}
use Rattle.capi_screens.proofs.ExportedLaws.{not-run, not-run-answer}
use Rattle.capi_screens.proofs.DealLaws.{deal-refused, deal-beyond, deal-none, turn-refused, turn-taken}
use Rattle.capi_screens.proofs.calls.whatif_screens_deal.Goals as goal

pub returns-then-records-ne-RUN_BYTES : goal.returns-then-records-ne-RUN_BYTES
returns-then-records-ne-RUN_BYTES c =
    rw c.number.ensures
    (deal-refused _ _ _ _ _ (not-run _ _ c.if-records-ne-RUN_BYTES.true) (not-run-answer _ _ c.if-records-ne-RUN_BYTES.true))

pub returns-then-first-gt-LAST : goal.returns-then-first-gt-LAST
returns-then-first-gt-LAST c =
    rw c.number-then-first-gt-LAST.ensures
    (deal-beyond _ _ _ (omega arith) _ _ c.if-first-gt-LAST.true)

pub returns-then-i-gt-LAST_SCREEN : goal.returns-then-i-gt-LAST_SCREEN
returns-then-i-gt-LAST_SCREEN c =
    rw c.number-then-i-gt-LAST_SCREEN.ensures
    (deal-none _ _ _ (omega arith) (omega arith) _ c.next_running-i.ensures _ _ c.if-i-gt-LAST_SCREEN.true)

pub returns-then-number-ne0 : goal.returns-then-number-ne0
returns-then-number-ne0 c =
    turn-refused _ _ _ (omega arith) (omega arith) _ c.next_running-i.ensures (omega arith) _ _
    c.records-1.given.0 _ _ c.whatif_advance-number.ensures _ (λ z. omega (arith, z, c.if-number-ne0.true))

pub returns : goal.returns
returns c =
    turn-taken _ _ _ (omega arith) (omega arith) _ c.next_running-i.ensures (omega arith) _ _
    c.records-1.given.0 _ _ c.whatif_advance-number.ensures _ _ (omega arith)
    c.one_past.ensures.0
