-- What the contracts of the five exported calls of the screens claim, as the prover itself reads them off the sources
-- (`Reads.Post`), is what the theorem over lists of screen calls takes (`ScreensExports`). A contract that promises
-- less is refused here.
--     load-tied, start-tied, cancel-tied, read-tied, deal-tied
use contract.Lifetimes.{Lfts}
use borrow.Fn.World.{ArgsD, ResD}
use borrow.Fn.Kinds.{ended_of}
use denote.Triple.Clauses.{AtExit}
use Rattle.formats.specs.Inputs.{inputs_of}
use Rattle.screens.specs.ScreenCalls as screens
use Rattle.capi_session.specs.Stored.{places}
use Rattle.capi_session.specs.DecodedAnswers.{decoded_done, decoded_start, decoded_read}
use Rattle.capi_screens.specs.DecodedScreens.{decoded_load, decoded_deal, ScreensExports, loads_all, starts_on}
use Rattle.capi_screens.specs.DecodedScreens.{cancels_on, reads_on, deals_one}
use Rattle.capi_screens.specs.contracts.load.whatif_screens_load as load_fn
use Rattle.capi_screens.proofs.load.whatif_screens_load.Kinds as load-kinds
use Rattle.capi_screens.proofs.load.whatif_screens_load.Reads as load-reads
use Rattle.capi_screens.specs.contracts.calls.whatif_screens_start as start-fn
use Rattle.capi_screens.proofs.calls.whatif_screens_start.Kinds as start-kinds
use Rattle.capi_screens.proofs.calls.whatif_screens_start.Reads as start-reads
use Rattle.capi_screens.specs.contracts.calls.whatif_screens_cancel as cancel-fn
use Rattle.capi_screens.proofs.calls.whatif_screens_cancel.Kinds as cancel-kinds
use Rattle.capi_screens.proofs.calls.whatif_screens_cancel.Reads as cancel-reads
use Rattle.capi_screens.specs.contracts.calls.whatif_screens_read as read-fn
use Rattle.capi_screens.proofs.calls.whatif_screens_read.Kinds as read-kinds
use Rattle.capi_screens.proofs.calls.whatif_screens_read.Reads as read-reads
use Rattle.capi_screens.specs.contracts.calls.whatif_screens_deal as deal-fn
use Rattle.capi_screens.proofs.calls.whatif_screens_deal.Kinds as deal-kinds
use Rattle.capi_screens.proofs.calls.whatif_screens_deal.Reads as deal-reads

pub load-tied : (κs : Lfts 6) (a : ArgsD load_fn.signature κs) (r : ResD load_fn.signature κs)
    (s : AtExit (ended_of 6 load-kinds.ps load-kinds.r) κs) → load-reads.Post κs a r s
    → ScreensExports a.0.now
    (screens.load_all (inputs_of a.1.0.now a.1.1.0.now a.1.1.1.0.now a.1.1.1.1.0.now))
    (decoded_load r s.1.1.1.1.1.0.now) s.0.now
load-tied κs a r s p = loads_all r _ _ _ _ p

pub start-tied : (κs : Lfts 8) (a : ArgsD start-fn.signature κs) (r : ResD start-fn.signature κs)
    (s : AtExit (ended_of 8 start-kinds.ps start-kinds.r) κs) → start-reads.Post κs a r s
    → ScreensExports a.0.now
    (screens.start_on a.1.0
    (inputs_of a.1.1.0.now a.1.1.1.0.now a.1.1.1.1.0.now a.1.1.1.1.1.0.now)
    a.1.1.1.1.1.1.0.now a.1.1.1.1.1.1.1.0.now)
    (screens.one (decoded_start r s.1.1.1.1.1.1.1.1.0.now)) s.0.now
start-tied κs a r s p = starts_on r _ _ p

pub cancel-tied : (κs : Lfts 1) (a : ArgsD cancel-fn.signature κs) (r : ResD cancel-fn.signature κs)
    (s : AtExit (ended_of 1 cancel-kinds.ps cancel-kinds.r) κs) → cancel-reads.Post κs a r s
    → ScreensExports a.0.now (screens.cancel_on a.1.0) (screens.one (decoded_done r)) s.0.now
cancel-tied κs a r s p = cancels_on r p

pub read-tied : (κs : Lfts 6) (a : ArgsD read-fn.signature κs) (r : ResD read-fn.signature κs)
    (s : AtExit (ended_of 6 read-kinds.ps read-kinds.r) κs) → read-reads.Post κs a r s
    → ScreensExports a.0.now (screens.read_on a.1.0)
    (screens.one (decoded_read r (places s.1.1.0.now s.1.1.1.0.now s.1.1.1.1.0.now
    s.1.1.1.1.1.0.now s.1.1.1.1.1.1.0.now))) a.0.now
read-tied κs a r s p = reads_on r _ _ p

pub deal-tied : (κs : Lfts 7) (a : ArgsD deal-fn.signature κs) (r : ResD deal-fn.signature κs)
    (s : AtExit (ended_of 7 deal-kinds.ps deal-kinds.r) κs) → deal-reads.Post κs a r s
    → ScreensExports a.0.now
    (screens.deal a.1.0
    (inputs_of a.1.1.0.now a.1.1.1.0.now a.1.1.1.1.0.now a.1.1.1.1.1.0.now))
    (decoded_deal r s.1.1.1.1.1.1.0.now s.1.1.1.1.1.1.1.0.now) s.0.now
deal-tied κs a r s p = deals_one r _ _ _ _ p
