-- What the contracts of the five exported session calls claim, as the prover itself reads them off the sources (`Reads.Post`), is what the
-- theorem over lists of calls takes (`Exports`). A contract that promises less is refused here.
--     load-tied, start-tied, advance-tied, cancel-tied, read-tied
use contract.Lifetimes.{Lfts}
use borrow.Fn.World.{ArgsD, ResD}
use borrow.Fn.Kinds.{ended_of}
use denote.Triple.Clauses.{AtExit}
use Rattle.formats.specs.Inputs.{inputs_of}
use Rattle.model.specs.Calls.{load, start, advance, cancel, read}
use Rattle.capi_session.specs.Stored.{places}
use Rattle.capi_session.specs.DecodedAnswers.{decoded_done, decoded_start, decoded_advance, decoded_read}
use Rattle.capi_session.specs.DecodedAnswers.{Exports, loads, starts, advances, cancels, reads}
use Rattle.capi_session.specs.contracts.calls.whatif_load as load_fn
use Rattle.capi_session.proofs.calls.whatif_load.Kinds as load-kinds
use Rattle.capi_session.proofs.calls.whatif_load.Reads as load-reads
use Rattle.capi_session.specs.contracts.calls.whatif_start as start-fn
use Rattle.capi_session.proofs.calls.whatif_start.Kinds as start-kinds
use Rattle.capi_session.proofs.calls.whatif_start.Reads as start-reads
use Rattle.capi_session.specs.contracts.calls.whatif_advance as advance-fn
use Rattle.capi_session.proofs.calls.whatif_advance.Kinds as advance-kinds
use Rattle.capi_session.proofs.calls.whatif_advance.Reads as advance-reads
use Rattle.capi_session.specs.contracts.calls.whatif_cancel as cancel-fn
use Rattle.capi_session.proofs.calls.whatif_cancel.Kinds as cancel-kinds
use Rattle.capi_session.proofs.calls.whatif_cancel.Reads as cancel-reads
use Rattle.capi_session.specs.contracts.calls.whatif_read as read-fn
use Rattle.capi_session.proofs.calls.whatif_read.Kinds as read-kinds
use Rattle.capi_session.proofs.calls.whatif_read.Reads as read-reads

pub load-tied : (κs : Lfts 5) (a : ArgsD load_fn.signature κs) (r : ResD load_fn.signature κs)
    (s : AtExit (ended_of 5 load-kinds.ps load-kinds.r) κs) → load-reads.Post κs a r s
    → Exports a.0.now (load (inputs_of a.1.0.now a.1.1.0.now a.1.1.1.0.now a.1.1.1.1.0.now))
    (decoded_done r) s.0.now
load-tied κs a r s p = loads r _ _ p

pub start-tied : (κs : Lfts 8) (a : ArgsD start-fn.signature κs) (r : ResD start-fn.signature κs)
    (s : AtExit (ended_of 8 start-kinds.ps start-kinds.r) κs) → start-reads.Post κs a r s
    → Exports a.0.now
    (start (inputs_of a.1.0.now a.1.1.0.now a.1.1.1.0.now a.1.1.1.1.0.now) a.1.1.1.1.1.0.now
    a.1.1.1.1.1.1.0.now) (decoded_start r s.1.1.1.1.1.1.1.0.now) s.0.now
start-tied κs a r s p = starts r _ _ p

pub advance-tied : (κs : Lfts 6) (a : ArgsD advance-fn.signature κs) (r : ResD advance-fn.signature κs)
    (s : AtExit (ended_of 6 advance-kinds.ps advance-kinds.r) κs) → advance-reads.Post κs a r s
    → Exports a.0.now (advance (inputs_of a.1.0.now a.1.1.0.now a.1.1.1.0.now a.1.1.1.1.0.now))
    (decoded_advance r s.1.1.1.1.1.0.now) s.0.now
advance-tied κs a r s p = advances r _ _ p

pub cancel-tied : (κs : Lfts 1) (a : ArgsD cancel-fn.signature κs) (r : ResD cancel-fn.signature κs)
    (s : AtExit (ended_of 1 cancel-kinds.ps cancel-kinds.r) κs) → cancel-reads.Post κs a r s
    → Exports a.0.now cancel (decoded_done r) s.0.now
cancel-tied κs a r s p = cancels r p

pub read-tied : (κs : Lfts 6) (a : ArgsD read-fn.signature κs) (r : ResD read-fn.signature κs)
    (s : AtExit (ended_of 6 read-kinds.ps read-kinds.r) κs) → read-reads.Post κs a r s
    → Exports a.0.now read
    (decoded_read r (places s.1.0.now s.1.1.0.now s.1.1.1.0.now s.1.1.1.1.0.now s.1.1.1.1.1.0.now)) a.0.now
read-tied κs a r s p = reads r _ _ p
