-- What the contracts of the five calls claim, as the prover itself reads them off the sources (`Reads.Post`), is what the theorem over
-- lists of calls takes (`CallByValue`). A contract that promises less is refused here.
--     load-tied, start-tied, advance-tied, cancel-tied, read-tied
use contract.Lifetimes.{Lfts}
use borrow.Fn.World.{ArgsD, ResD}
use borrow.Fn.Kinds.{ended_of}
use denote.Triple.Clauses.{AtExit}
use Rattle.formats.specs.Inputs.{inputs_of}
use Rattle.model.specs.Calls.{load, start, advance, cancel, read}
use Rattle.session.specs.Answers.{call_answer, start_answer, advance_answer, read_answer}
use Rattle.session.specs.CallsByValue.{CallByValue, loads, starts, advances, cancels, reads}
use Rattle.session.specs.contracts.state.Session.load as load_fn
use Rattle.session.proofs.state.Session.load.Kinds as load-kinds
use Rattle.session.proofs.state.Session.load.Reads as load-reads
use Rattle.session.specs.contracts.state.Session.start as start-fn
use Rattle.session.proofs.state.Session.start.Kinds as start-kinds
use Rattle.session.proofs.state.Session.start.Reads as start-reads
use Rattle.session.specs.contracts.state.Session.advance as advance-fn
use Rattle.session.proofs.state.Session.advance.Kinds as advance-kinds
use Rattle.session.proofs.state.Session.advance.Reads as advance-reads
use Rattle.session.specs.contracts.state.Session.cancel as cancel-fn
use Rattle.session.proofs.state.Session.cancel.Kinds as cancel-kinds
use Rattle.session.proofs.state.Session.cancel.Reads as cancel-reads
use Rattle.session.specs.contracts.state.Session.read as read-fn
use Rattle.session.proofs.state.Session.read.Kinds as read-kinds
use Rattle.session.proofs.state.Session.read.Reads as read-reads

pub load-tied : (κs : Lfts 4) (a : ArgsD load_fn.signature κs) (r : ResD load_fn.signature κs)
    (s : AtExit (ended_of 4 load-kinds.ps load-kinds.r) κs) → load-reads.Post κs a r s
    → CallByValue a.0 (load (inputs_of a.1.0.now a.1.1.0.now a.1.1.1.0.now a.1.1.1.1.0.now))
    (call_answer r.answer) r.session
load-tied κs a r s p = loads r _ _ p

pub start-tied : (κs : Lfts 6) (a : ArgsD start-fn.signature κs) (r : ResD start-fn.signature κs)
    (s : AtExit (ended_of 6 start-kinds.ps start-kinds.r) κs) → start-reads.Post κs a r s
    → CallByValue a.0
    (start (inputs_of a.1.0.now a.1.1.0.now a.1.1.1.0.now a.1.1.1.1.0.now) a.1.1.1.1.1.0.now
    a.1.1.1.1.1.1.0.now) (start_answer r.answer) r.session
start-tied κs a r s p = starts r p

pub advance-tied : (κs : Lfts 4) (a : ArgsD advance-fn.signature κs) (r : ResD advance-fn.signature κs)
    (s : AtExit (ended_of 4 advance-kinds.ps advance-kinds.r) κs) → advance-reads.Post κs a r s
    → CallByValue a.0 (advance (inputs_of a.1.0.now a.1.1.0.now a.1.1.1.0.now a.1.1.1.1.0.now))
    (advance_answer r.answer) r.session
advance-tied κs a r s p = advances r p

pub cancel-tied : (κs : Lfts 0) (a : ArgsD cancel-fn.signature κs) (r : ResD cancel-fn.signature κs)
    (s : AtExit (ended_of 0 cancel-kinds.ps cancel-kinds.r) κs) → cancel-reads.Post κs a r s
    → CallByValue a.0 cancel (call_answer r.answer) r.session
cancel-tied κs a r s p = cancels r p

pub read-tied : (κs : Lfts 0) (a : ArgsD read-fn.signature κs) (r : ResD read-fn.signature κs)
    (s : AtExit (ended_of 0 read-kinds.ps read-kinds.r) κs) → read-reads.Post κs a r s
    → CallByValue a.0 read (read_answer r) a.0
read-tied κs a r s p = reads r p
