-- `capi_screens::load::whatif_screens_load` meets its contract. Each return cites the law of its answer.
use Rattle.std.proofs.Common.{sym, ◌∙◌, arith}
use lib.Seq.{length-take-le}
use Rattle.capi_screens.proofs.LoadLaws.{no-run-load, busy-load, refused-load, cleared-load}
use Rattle.capi_screens.proofs.load.whatif_screens_load.Goals as goal

pub returns-then-records-ne-RUN_BYTES : goal.returns-then-records-ne-RUN_BYTES
returns-then-records-ne-RUN_BYTES c =
    rw c.number.ensures
    (no-run-load _ _ _ c.if-records-ne-RUN_BYTES.true)

pub returns-then-any_busy : goal.returns-then-any_busy
returns-then-any_busy c =
    rw c.number-then-any_busy.ensures
    (busy-load _ _ _ (omega arith) (sym c.any_busy.ensures ∙ c.if-any_busy.true))

pub slice_bounds-whatif_load-end-2 : goal.slice_bounds-whatif_load-end-2
slice_bounds-whatif_load-end-2 c =
    sym (length-take-le 983 c.args.records.now (omega arith))

pub returns-then-number-ne0 : goal.returns-then-number-ne0
returns-then-number-ne0 c =
    refused-load _ _ _ (omega arith) (sym c.any_busy.ensures ∙ c.if-any_busy.false) _ _ _ _
    c.whatif_load-number.ensures c.if-number-ne0.true

pub returns : goal.returns
returns c =
    cleared-load _ _ _ (omega arith) (sym c.any_busy.ensures ∙ c.if-any_busy.false) _ _ _ _
    c.whatif_load-number.ensures c.if-number-ne0.false c.records-1.given.0 _ c.copy_first.ensures
