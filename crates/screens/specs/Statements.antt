-- What document 02, S-8, says of eight screens, over any form of the calls: `Step` is a call's contract, `fresh` the
-- run of eight records before the first call.
--
-- ScreenAlone == projection: a history of the eight records, seen by one screen, is a history of a single session
-- ScreensReferences == a reference model for each screen, fed the accepted Loads, its own calls and its turns
-- Isolation, IsolationSinceLoad == "for the same own calls and turns with the same lent bytes in the same order, what a
--   screen reads, and each of its refusals except Load's, must be the same"; a premise on calls, never on answers
-- ServedSoon, TurnsApart, BetweenTurns == "a screen that stays running is served within eight accepted deals, and no
--   other is served twice between two successive turns of it in one question", for any inputs, and for any
--   Starts and Cancels of the others
-- DealTaken == "While plan, rules and tables are as Load left them" every deal with a screen running is accepted
-- LoadClears, LoadEmpties, LoadWaits == "Load is refused while any screen runs and clears them all"
-- RefusedAlike == a refused call alters nothing; a refused deal returns no number
-- DealServes == "One deal gives one advance to the next running screen .., going from 7 back to 0", said without the
--   search
-- Screens fresh Step == those of them that are about every list of calls
--
-- One statement about every list of screen calls: ScreensDemand3 (EightReferences).
use Rattle.std.specs.Prelude.{ℕ, ◌+◌, ◌%◌, ◌≤◌, ◌<◌, ◌≡◌, true, false, List, [], ◌∷◌, ◌++◌, length, take, replicate}
use Rattle.std.proofs.Math.Option.{none}
use Rattle.list_laws.specs.Tests.{holds, distinct}
use Rattle.formats.specs.Built.{built_node_table, built_state_table}
use Rattle.formats.specs.Inputs.{Inputs, inputs_of, sizes_in, same_inputs}
use Rattle.tables.specs.Answers.{written}
use Rattle.model.specs.Calls.{more, refused}
use Rattle.model.specs.History.{History}
use Rattle.model.specs.Model.{Record, loaded_record, Does}
use Rattle.reference.specs.Reference.{new_reference}
use Rattle.reference.specs.Demand3.{Agrees}
use Rattle.screens.specs.ScreenCalls.{ScreenCall, load_all, start_on, cancel_on, read_on, deal, ScreenAnswer, one}
use Rattle.screens.specs.ScreenCalls.{loads, deals, answer_in}
use Rattle.screens.specs.ScreenCalls.{refuses, Running, nobody_runs, served_by, any_runs, Target, nobody}
use Rattle.screens.specs.ScreenCalls.{every_screen, screen, turn, target}
use Rattle.screens.specs.EightRecords.{at, runs, act_all, DoesAll}
use Rattle.screens.specs.Projection.{followed, running_after, own_calls, own_answers}
use Rattle.screens.specs.EightReferences.{ScreensDemand3}
use Rattle.screens.specs.Turns.{turns_of, HandedOn, Uncancelled, until}

-- ---- whom a deal serves

-- the first screen that runs, from number k on
pub record Next (run : Running) (k i : ℕ) : Type 0 where
  pub way : ℕ
  pub few : way < 8
  pub is : i ≡ (k + way) % 8
  pub runs : run i ≡ true
  pub first : (e : ℕ) → e < way → run ((k + e) % 8) ≡ false

abbrev pub Serves : Running → ℕ → Target → Type 0
Serves run k (nobody n) = (n ≡ 1) × ((i : ℕ) → i < 8 → run i ≡ false)
Serves run k (every_screen x) = ⊥
Serves run k (screen i c) = ⊥
Serves run k (turn i x) = Next run k i

abbrev pub DealServes : Type 0
DealServes = (run : Running) (k : ℕ) (x : Inputs) → k < 8 → Serves run k (target run (deal k x))

-- ---- of the eight records

abbrev pub ScreenAlone : Type 0
ScreenAlone = (i : ℕ) → i < 8 → (rs : List Record) → length rs ≡ 8
    → (cs : List ScreenCall) (xs : List ScreenAnswer) → History DoesAll rs cs xs
    → History Does (at rs i) (own_calls i (runs rs) cs xs) (own_answers i (runs rs) cs xs)

abbrev pub LoadClears : Type 0
LoadClears = (rs : List Record) (x : Inputs) (k : ℕ) → (act_all rs (load_all x)).answer ≡ loads k
    → (k ≡ 0) × ((act_all rs (load_all x)).records' ≡ replicate 8 (loaded_record (sizes_in x)))

-- "an accepted Load clears" the finished answers too (S-1)
abbrev pub LoadEmpties : Type 0
LoadEmpties = (rs : List Record) (x : Inputs) (k i : ℕ) → (act_all rs (load_all x)).answer ≡ loads k
    → (at (act_all rs (load_all x)).records' i).last ≡ none

abbrev pub LoadWaits : Type 0
LoadWaits = (rs : List Record) (x : Inputs) (i : ℕ) → length rs ≡ 8 → i < 8 → runs rs i ≡ true
    → (act_all rs (load_all x)).answer ≡ one (refused 1)

abbrev pub RefusedAlike : Type 0
RefusedAlike = (rs : List Record) (c : ScreenCall) → refuses (act_all rs c).answer ≡ true
    → ((act_all rs c).answer ≡ one (answer_in (act_all rs c).answer)) × ((act_all rs c).records' ≡ rs)

-- ---- what a Load leaves

-- plan and rules as they were, the tables as built, excess as it was
abbrev pub left_by : Inputs → Inputs
left_by x =
    inputs_of x.plan x.rules (written 0 (built_node_table x.plan) x.node_table)
    (written 0 (built_state_table x.plan x.rules) x.state_table)

-- every Start and deal is given what that Load left, and no other Load is accepted
abbrev pub AsLeftIn : Inputs → ScreenCall → ScreenAnswer → Type 0
AsLeftIn x (load_all y) a = refuses a ≡ true
AsLeftIn x (start_on i y vs bs) a = same_inputs (sizes_in x) (left_by x) y ≡ true
AsLeftIn x (cancel_on i) a = Unit {0}
AsLeftIn x (read_on i) a = Unit {0}
AsLeftIn x (deal k y) a = same_inputs (sizes_in x) (left_by x) y ≡ true

abbrev pub AsLeft : Inputs → List ScreenCall → List ScreenAnswer → Type 0
AsLeft x [] xs = Unit {0}
AsLeft x (c ∷ cs) [] = Unit {0}
AsLeft x (c ∷ cs) (a ∷ xs) = AsLeftIn x c a × AsLeft x cs xs

-- a deal that is handed a number up to 7 while a screen runs is accepted
abbrev pub Taken : Running → ScreenCall → ScreenAnswer → Type 0
Taken run (load_all y) a = Unit {0}
Taken run (start_on i y vs bs) a = Unit {0}
Taken run (cancel_on i) a = Unit {0}
Taken run (read_on i) a = Unit {0}
Taken run (deal k y) a = k < 8 → any_runs 8 run ≡ true → refuses a ≡ false

abbrev pub AllTaken : Running → List ScreenCall → List ScreenAnswer → Type 0
AllTaken run [] xs = Unit {0}
AllTaken run (c ∷ cs) [] = Unit {0}
AllTaken run (c ∷ cs) (a ∷ xs) = Taken run c a × AllTaken (followed run c a) cs xs

-- ---- of every list of calls

module _ {Run : Type 0} (fresh : Run) (Step : Run → ScreenCall → ScreenAnswer → Run → Type 0) where
  abbrev pub ScreensReferences : Type 0
  ScreensReferences = (i : ℕ) → i < 8 → (cs : List ScreenCall) (xs : List ScreenAnswer) → History Step fresh cs xs
      → Agrees new_reference (own_calls i nobody_runs cs xs) (own_answers i nobody_runs cs xs)

  abbrev pub Isolation : Type 0
  Isolation = (i : ℕ) → i < 8 → (cs ds : List ScreenCall) (xs ys : List ScreenAnswer) → History Step fresh cs xs
      → History Step fresh ds ys
      → own_calls i nobody_runs cs xs ≡ own_calls i nobody_runs ds ys
      → own_answers i nobody_runs cs xs ≡ own_answers i nobody_runs ds ys

  -- "Between two accepted Loads": both lists from an accepted Load on, of the same N, S and K
  abbrev pub IsolationSinceLoad : Type 0
  IsolationSinceLoad = (i : ℕ) → i < 8 → (x y : Inputs) → sizes_in x ≡ sizes_in y
      → (before cs before' ds : List ScreenCall) (told xs told' ys : List ScreenAnswer) (k l : ℕ)
      → length before ≡ length told → length before' ≡ length told'
      → History Step fresh (before ++ (load_all x ∷ cs)) (told ++ (loads k ∷ xs))
      → History Step fresh (before' ++ (load_all y ∷ ds)) (told' ++ (loads l ∷ ys))
      → own_calls i nobody_runs cs xs ≡ own_calls i nobody_runs ds ys
      → own_answers i nobody_runs cs xs ≡ own_answers i nobody_runs ds ys

  -- from any point of a history on where screen i runs, with any number up to 7 to try first
  abbrev pub FromThere : (ℕ → List ScreenAnswer → Type 0) → Type 0
  FromThere P = (i k : ℕ) (before cs : List ScreenCall) (told xs : List ScreenAnswer) → i < 8 → k < 8
      → length before ≡ length told
      → History Step fresh (before ++ cs) (told ++ xs) → running_after nobody_runs before told i ≡ true
      → HandedOn k cs xs → Uncancelled i cs xs → P i xs

  abbrev pub ServedSoon : Type 0
  ServedSoon = FromThere (λ i xs. 8 ≤ length (turns_of xs) → holds i (take 8 (turns_of xs)) ≡ true)

  abbrev pub TurnsApart : Type 0
  TurnsApart = FromThere (λ i xs. distinct (until i (turns_of xs)) ≡ true)

  -- after a turn of screen i that returned more, up to its next
  abbrev pub BetweenTurns : Type 0
  BetweenTurns = (i k n : ℕ) (x : Inputs) (before cs : List ScreenCall) (told xs : List ScreenAnswer)
      → length before ≡ length told
      → History Step fresh (before ++ (deal k x ∷ cs)) (told ++ (deals n more ∷ xs)) → served_by n ≡ i
      → HandedOn n cs xs → Uncancelled i cs xs → distinct (until i (turns_of xs)) ≡ true

  abbrev pub DealTaken : Type 0
  DealTaken = (x : Inputs) (before cs : List ScreenCall) (told xs : List ScreenAnswer) (k : ℕ)
      → length before ≡ length told
      → History Step fresh (before ++ (load_all x ∷ cs)) (told ++ (loads k ∷ xs)) → AsLeft x cs xs
      → AllTaken nobody_runs cs xs

  pub record Screens : Type 0 where
    pub demand_3 : ScreensDemand3 fresh Step
    pub references : ScreensReferences
    pub isolation : Isolation
    pub isolation_since_load : IsolationSinceLoad
    pub served_soon : ServedSoon
    pub turns_apart : TurnsApart
    pub between_turns : BetweenTurns
    pub deal_taken : DealTaken
