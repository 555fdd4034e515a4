-- What the contracts of the calls in place promise is what the theorem over lists of calls takes (`CallInPlace`).
--     load_promised, start_promised, advance_promised, cancel_promised, read_promised   the promises
--     load-tied, start-tied, advance-tied, cancel-tied, read-tied   a promise gives the step of the theorem
--     load-says, start-says, advance-says, cancel-says, read-says   the source's contract is the promise, clause by clause
-- A contract that promises less is refused at its `..-says`; a promise that says less at its `..-tied`.
use mathlib.Core.Path.{◌≡◌, refl}
use seplogic.Ra.Ura.{Ura}
use base.Logic.{SProp}
use prog.Memory.{Memory}
use prog.Routine.{Routine}
use types.Logic.{Logic}
use contract.Monad.{Fun, fact}
use contract.Lifetimes.{Lfts}
use denote.Triple.Entry.{Args}
use denote.Triple.Clauses.{AtExit}
use Rattle.formats.specs.Inputs.{inputs_of}
use Rattle.model.specs.Calls.{load, start, advance, cancel, read}
use Rattle.std.specs.Prelude.{ℕ, Result}
use Rattle.formats.specs.declared.refusals.Refusal.{Refusal}
use Rattle.session.specs.declared.answers.Progress.{Progress}
use Rattle.session.specs.declared.answers.Outcome.{Outcome}
use Rattle.session.specs.Answers.{call_answer, start_answer, advance_answer, read_answer}
use Rattle.session.specs.Promises.{CallDone, LoadDone, answer_on}
use Rattle.session.specs.in_place.CallsInPlace.{CallInPlace, loads, starts, advances, cancels, reads}
use Rattle.session.specs.contracts.in_place.load as load_fn
use Rattle.session.specs.contracts.in_place.start as start-fn
use Rattle.session.specs.contracts.in_place.advance as advance-fn
use Rattle.session.specs.contracts.in_place.cancel as cancel-fn
use Rattle.session.specs.contracts.in_place.read as read-fn

abbrev pub load_promised : (κs : Lfts 5) (a : Args load_fn.signature κs) → Result Unit Refusal → AtExit load_fn.ended κs → Type 0
load_promised κs a r e =
    LoadDone a.0.now (inputs_of a.1.0.now a.1.1.0.now a.1.1.1.0.now a.1.1.1.1.0.now)
    (call_answer r) e.0.now e.1.1.1.0.now e.1.1.1.1.0.now

pub load-tied : (κs : Lfts 5) (a : Args load_fn.signature κs) (r : Result Unit Refusal) (e : AtExit load_fn.ended κs) → load_promised κs a r e
    → CallInPlace a.0.now (load (inputs_of a.1.0.now a.1.1.0.now a.1.1.1.0.now a.1.1.1.1.0.now))
    (call_answer r) e.0.now
load-tied κs a r e p = loads r _ _ p

abbrev pub start_promised : (κs : Lfts 7) (a : Args start-fn.signature κs) → Result ℕ Refusal → AtExit start-fn.ended κs → Type 0
start_promised κs a r e =
    CallDone a.0.now (start (inputs_of a.1.0.now a.1.1.0.now a.1.1.1.0.now a.1.1.1.1.0.now)
    a.1.1.1.1.1.0.now a.1.1.1.1.1.1.0.now)
    (start_answer r) e.0.now

pub start-tied : (κs : Lfts 7) (a : Args start-fn.signature κs) (r : Result ℕ Refusal) (e : AtExit start-fn.ended κs) → start_promised κs a r e
    → CallInPlace a.0.now
    (start (inputs_of a.1.0.now a.1.1.0.now a.1.1.1.0.now a.1.1.1.1.0.now) a.1.1.1.1.1.0.now
    a.1.1.1.1.1.1.0.now) (start_answer r) e.0.now
start-tied κs a r e p = starts r p

abbrev pub advance_promised : (κs : Lfts 5) (a : Args advance-fn.signature κs) → Result Progress Refusal → AtExit advance-fn.ended κs → Type 0
advance_promised κs a r e =
    CallDone a.0.now (advance (inputs_of a.1.0.now a.1.1.0.now a.1.1.1.0.now a.1.1.1.1.0.now))
    (advance_answer r) e.0.now

pub advance-tied : (κs : Lfts 5) (a : Args advance-fn.signature κs) (r : Result Progress Refusal) (e : AtExit advance-fn.ended κs)
    → advance_promised κs a r e
    → CallInPlace a.0.now (advance (inputs_of a.1.0.now a.1.1.0.now a.1.1.1.0.now a.1.1.1.1.0.now))
    (advance_answer r) e.0.now
advance-tied κs a r e p = advances r p

abbrev pub cancel_promised : (κs : Lfts 1) (a : Args cancel-fn.signature κs) → Result Unit Refusal → AtExit cancel-fn.ended κs → Type 0
cancel_promised κs a r e =
    CallDone a.0.now cancel
    (call_answer r) e.0.now

pub cancel-tied : (κs : Lfts 1) (a : Args cancel-fn.signature κs) (r : Result Unit Refusal) (e : AtExit cancel-fn.ended κs) → cancel_promised κs a r e
    → CallInPlace a.0.now cancel (call_answer r) e.0.now
cancel-tied κs a r e p = cancels r p

abbrev pub read_promised : (κs : Lfts 1) (a : Args read-fn.signature κs) → Result Outcome Refusal → Type 0
read_promised κs a r = read_answer r ≡ answer_on a.0.now read

pub read-tied : (κs : Lfts 1) (a : Args read-fn.signature κs) (r : Result Outcome Refusal) → read_promised κs a r
    → CallInPlace a.0.now read (read_answer r) a.0.now
read-tied κs a r p = reads r p

-- what the source's contract says is this very promise
module _ {M : Type 1} {𝓤 : Ura M} (𝓛 : Logic 𝓤) (at_mem : Memory → SProp 𝓤) (run : Routine → Fun 𝓤) where
  pub cancel-says : (κs : Lfts 1) (a : Args cancel-fn.signature κs) (r : Result Unit Refusal) (e : AtExit cancel-fn.ended κs)
      → (cancel-fn.clauses 𝓛 at_mem run κs a).ensures tt r e ≡ fact 𝓤 (cancel_promised κs a r e)
  cancel-says κs a r e = refl

  pub load-says : (κs : Lfts 5) (a : Args load_fn.signature κs) (r : Result Unit Refusal) (e : AtExit load_fn.ended κs)
      → (load_fn.clauses 𝓛 at_mem run κs a).ensures tt r e ≡ fact 𝓤 (load_promised κs a r e)
  load-says κs a r e = refl

  pub start-says : (κs : Lfts 7) (a : Args start-fn.signature κs) (r : Result ℕ Refusal) (e : AtExit start-fn.ended κs)
      → (start-fn.clauses 𝓛 at_mem run κs a).ensures tt r e ≡ fact 𝓤 (start_promised κs a r e)
  start-says κs a r e = refl

  pub advance-says : (κs : Lfts 5) (a : Args advance-fn.signature κs) (r : Result Progress Refusal) (e : AtExit advance-fn.ended κs)
      → (advance-fn.clauses 𝓛 at_mem run κs a).ensures tt r e ≡ fact 𝓤 (advance_promised κs a r e)
  advance-says κs a r e = refl

  pub read-says : (κs : Lfts 1) (a : Args read-fn.signature κs) (r : Result Outcome Refusal) (e : AtExit read-fn.ended κs)
      → (read-fn.clauses 𝓛 at_mem run κs a).ensures tt r e ≡ fact 𝓤 (read_promised κs a r)
  read-says κs a r e = refl
