-- What the contracts over a run of structs promise is what the theorem over lists of screen calls takes (`ScreenInPlace`).
--     deal_promised, start_promised, cancel_promised, read_promised   the promises; Load's is read off its source as it is
--     deal-tied, start-tied, cancel-tied, load-tied, read-tied    a promise gives the step of the theorem
--     deal-says, start-says, cancel-says, read-says               the source's contract is the promise, clause by clause
-- A contract that promises less, with its answers adapted, is refused at its `..-says`; a promise that says less at its
-- `..-tied`.
use mathlib.Core.Path.{◌≡◌, refl}
use seplogic.Ra.Ura.{Ura}
use base.Logic.{SProp}
use prog.Memory.{Memory}
use prog.Routine.{Routine}
use types.Logic.{Logic}
use contract.Monad.{Fun, fact}
use contract.Lifetimes.{Lfts}
use Rattle.std.specs.Prelude.{ℕ, Result}
use Rattle.formats.specs.declared.refusals.Refusal.{Refusal}
use Rattle.session.specs.declared.answers.Outcome.{Outcome}
use Rattle.screens.specs.contracts.in_place.read as read-fn
use borrow.Fn.World.{ArgsD, ResD}
use borrow.Fn.Kinds.{ended_of}
use denote.Triple.Entry.{Args}
use denote.Triple.Clauses.{AtExit}
use Rattle.formats.specs.Inputs.{inputs_of}
use Rattle.screens.specs.ScreenCalls as screens
use Rattle.session.specs.Answers.{call_answer, start_answer, read_answer}
use Rattle.screens.specs.declared.in_place.Dealt.{Dealt}
use Rattle.screens.specs.in_place.OnStructs.{deal_answer, answer_all, ScreenDone}
use Rattle.screens.specs.in_place.LoadAll.{load_answer}
use Rattle.screens.specs.in_place.ScreensInPlace.{ScreenInPlace, does, reads}
use Rattle.screens.specs.contracts.in_place.deal as deal-fn
use Rattle.screens.specs.contracts.in_place.start as start-fn
use Rattle.screens.specs.contracts.in_place.cancel as cancel-fn
use Rattle.screens.specs.contracts.in_place.load.load as load_fn
use Rattle.screens.proofs.in_place.load.load.Kinds as load-kinds
use Rattle.screens.proofs.in_place.load.load.Reads as load-reads

abbrev pub deal_promised : (κs : Lfts 5) (a : Args deal-fn.signature κs) → Result Dealt Refusal → AtExit deal-fn.ended κs → Type 0
deal_promised κs a r e =
    ScreenDone a.0.now
    (screens.deal a.1.0
    (inputs_of a.1.1.0.now a.1.1.1.0.now a.1.1.1.1.0.now a.1.1.1.1.1.0.now))
    (deal_answer r) e.0.now

pub deal-tied : (κs : Lfts 5) (a : Args deal-fn.signature κs) (r : Result Dealt Refusal) (e : AtExit deal-fn.ended κs)
    → deal_promised κs a r e
    → ScreenInPlace a.0.now
    (screens.deal a.1.0
    (inputs_of a.1.1.0.now a.1.1.1.0.now a.1.1.1.1.0.now a.1.1.1.1.1.0.now))
    (deal_answer r) e.0.now
deal-tied κs a r e p = does p

abbrev pub start_promised : (κs : Lfts 7) (a : Args start-fn.signature κs) → Result ℕ Refusal → AtExit start-fn.ended κs
    → Type 0
start_promised κs a r e =
    ScreenDone a.0.now
    (screens.start_on a.1.0
    (inputs_of a.1.1.0.now a.1.1.1.0.now a.1.1.1.1.0.now a.1.1.1.1.1.0.now)
    a.1.1.1.1.1.1.0.now a.1.1.1.1.1.1.1.0.now)
    (screens.one (start_answer r)) e.0.now

pub start-tied : (κs : Lfts 7) (a : Args start-fn.signature κs) (r : Result ℕ Refusal) (e : AtExit start-fn.ended κs)
    → start_promised κs a r e
    → ScreenInPlace a.0.now
    (screens.start_on a.1.0
    (inputs_of a.1.1.0.now a.1.1.1.0.now a.1.1.1.1.0.now a.1.1.1.1.1.0.now)
    a.1.1.1.1.1.1.0.now a.1.1.1.1.1.1.1.0.now)
    (screens.one (start_answer r)) e.0.now
start-tied κs a r e p = does p

abbrev pub cancel_promised : (κs : Lfts 1) (a : Args cancel-fn.signature κs) → Result Unit Refusal → AtExit cancel-fn.ended κs
    → Type 0
cancel_promised κs a r e =
    ScreenDone a.0.now (screens.cancel_on a.1.0) (screens.one (call_answer r)) e.0.now

pub cancel-tied : (κs : Lfts 1) (a : Args cancel-fn.signature κs) (r : Result Unit Refusal) (e : AtExit cancel-fn.ended κs)
    → cancel_promised κs a r e
    → ScreenInPlace a.0.now (screens.cancel_on a.1.0) (screens.one (call_answer r)) e.0.now
cancel-tied κs a r e p = does p

pub load-tied : (κs : Lfts 4) (a : ArgsD load_fn.signature κs) (r : ResD load_fn.signature κs)
    (s : AtExit (ended_of 4 load-kinds.ps load-kinds.r) κs) → load-reads.Post κs a r s
    → ScreenInPlace a.0
    (screens.load_all (inputs_of a.1.0.now a.1.1.0.now a.1.1.1.0.now a.1.1.1.1.0.now))
    (load_answer r.answer) r.all
load-tied κs a r s p = does p.call

-- Read takes the run by `&`, to read only
abbrev pub read_promised : (κs : Lfts 1) (a : Args read-fn.signature κs) → Result Outcome Refusal → Type 0
read_promised κs a r = screens.one (read_answer r) ≡ answer_all a.0.now (screens.read_on a.1.0)

pub read-tied : (κs : Lfts 1) (a : Args read-fn.signature κs) (r : Result Outcome Refusal) → read_promised κs a r
    → ScreenInPlace a.0.now (screens.read_on a.1.0) (screens.one (read_answer r)) a.0.now
read-tied κs a r p = reads a.1.0 p

-- what the sources' contracts say is these very promises
module _ {M : Type 1} {𝓤 : Ura M} (𝓛 : Logic 𝓤) (at_mem : Memory → SProp 𝓤) (run : Routine → Fun 𝓤) where
  pub deal-says : (κs : Lfts 5) (a : Args deal-fn.signature κs) (r : Result Dealt Refusal) (e : AtExit deal-fn.ended κs)
      → (deal-fn.clauses 𝓛 at_mem run κs a).ensures tt r e ≡ fact 𝓤 (deal_promised κs a r e)
  deal-says κs a r e = refl

  pub start-says : (κs : Lfts 7) (a : Args start-fn.signature κs) (r : Result ℕ Refusal) (e : AtExit start-fn.ended κs)
      → (start-fn.clauses 𝓛 at_mem run κs a).ensures tt r e ≡ fact 𝓤 (start_promised κs a r e)
  start-says κs a r e = refl

  pub cancel-says : (κs : Lfts 1) (a : Args cancel-fn.signature κs) (r : Result Unit Refusal) (e : AtExit cancel-fn.ended κs)
      → (cancel-fn.clauses 𝓛 at_mem run κs a).ensures tt r e ≡ fact 𝓤 (cancel_promised κs a r e)
  cancel-says κs a r e = refl

  pub read-says : (κs : Lfts 1) (a : Args read-fn.signature κs) (r : Result Outcome Refusal) (e : AtExit read-fn.ended κs)
      → (read-fn.clauses 𝓛 at_mem run κs a).ensures tt r e ≡ fact 𝓤 (read_promised κs a r)
  read-says κs a r e = refl
