-- The calls of eight screens, their answers, and whose call each is.
--
-- ScreenCall == "Start, Cancel and Read name a screen"; Load is for all; a deal is handed the screen to try first
-- ScreenAnswer == what a call returns: an answer of a single session, every refusal among them; the screen to try first
--   after a Load; that screen and the advance's answer after a deal
-- answer_in a == the answer of a single session in it; refuses a == whether it is a refusal
-- Running == which screens run, by their numbers; nobody_runs == none
-- one_past i == the screen to try first after one that was served; served_by k == the screen that was served, from that
--   number
-- next_running run k == the first screen that runs from number k on, round from 7 to 0; none where none runs
-- found run k == its number as a program returns it: 8 where none runs, 9 where k is above 7
-- any_runs n run == whether one of the screens below n runs
-- Target == whose a call is: nobody's, refused with a number; every screen's, an accepted Load; one screen's; one
--   screen's turn
-- target run c == whose call c is while run says who runs. The records and the reference models share it
-- Another t j == a call that is t's is not screen j's
-- turn_answer i a == the answer of a deal that served screen i, whose advance returned a
--
-- Not here: 25 for a run of another length (EightRecords).
use Rattle.std.specs.Prelude.{ℕ, zero, suc, ◌-◌, ◌≡◌, Bool, false, cond, not, ◌||◌, List, ◌∷◌, ltb, eqb, length}
use Rattle.std.proofs.Math.Option.{Option, none, some}
use Rattle.formats.specs.Inputs.{Inputs}
use Rattle.formats.specs.Checks.{Check, check, first_no, build_checks}
use Rattle.model.specs.Calls.{Call, start, cancel, read, Answer, is_refused}

pub data ScreenCall : Type 0 where
  load_all : Inputs → ScreenCall
  start_on : ℕ → Inputs → List ℕ → List ℕ → ScreenCall
  cancel_on : ℕ → ScreenCall
  read_on : ℕ → ScreenCall
  deal : ℕ → Inputs → ScreenCall

-- "A deal tells that number and what the advance tells."
pub data ScreenAnswer : Type 0 where
  one : Answer → ScreenAnswer
  loads : ℕ → ScreenAnswer
  deals : ℕ → Answer → ScreenAnswer

unfoldable pub answer_in : ScreenAnswer → Answer
answer_in (one a) = a
answer_in (loads k) = Answer.accepted
answer_in (deals k a) = a

abbrev pub refuses : ScreenAnswer → Bool
refuses a = is_refused (answer_in a)

-- ---- the screen to try first

abbrev pub Running : Type 0
Running = ℕ → Bool

abbrev pub nobody_runs : Running
nobody_runs i = false

-- "one past the screen served, 0 past 7"
abbrev pub one_past : ℕ → ℕ
one_past i = cond (ltb i 7) (suc i) 0

abbrev pub served_by : ℕ → ℕ
served_by k = cond (eqb k 0) 7 (k - 1)

unfoldable pub next_running_in : ℕ → Running → ℕ → Option ℕ
next_running_in zero run k = none
next_running_in (suc f) run k = cond (run k) (some k) (next_running_in f run (one_past k))

-- "the next running screen after the one served last, going from 7 back to 0"
unfoldable pub next_running : Running → ℕ → Option ℕ
next_running run k = next_running_in 8 run k

unfoldable pub or_eight : Option ℕ → ℕ
or_eight none = 8
or_eight (some i) = i

unfoldable pub found : Running → ℕ → ℕ
found run k = cond (ltb k 8) (or_eight (next_running run k)) 9

unfoldable pub any_runs : ℕ → Running → Bool
any_runs zero run = false
any_runs (suc n) run = run n || any_runs n run

-- ---- whose a call is

pub data Target : Type 0 where
  nobody : ℕ → Target
  every_screen : Inputs → Target
  screen : ℕ → Call → Target
  turn : ℕ → Inputs → Target

-- "Load is refused while any screen runs", then 2 to 11
abbrev pub load_all_checks : Running → Inputs → List Check
load_all_checks run x =
    check 1 (not (any_runs 8 run)) ∷ build_checks x.plan x.rules (length x.node_table) (length x.state_table)

unfoldable pub load_target : ℕ → Inputs → Target
load_target zero x = every_screen x
load_target (suc n) x = nobody (suc n)

-- "One deal gives one advance to the next running screen"; "A deal with no screen running gives 1."
unfoldable pub deal_target : Option ℕ → Inputs → Target
deal_target none x = nobody 1
deal_target (some i) x = turn i x

-- "A screen number above 7, the one to try first included, .. gives 25, before everything else."
unfoldable pub numbered : ℕ → Target → Target
numbered i t = cond (ltb i 8) t (nobody 25)

unfoldable pub target : Running → ScreenCall → Target
target run (load_all x) = load_target (first_no (load_all_checks run x)) x
target run (start_on i x vs bs) = numbered i (screen i (start x vs bs))
target run (cancel_on i) = numbered i (screen i cancel)
target run (read_on i) = numbered i (screen i read)
target run (deal k x) = numbered k (deal_target (next_running run k) x)

abbrev pub Another : Target → ℕ → Type 0
Another (nobody n) j = Unit {0}
Another (every_screen x) j = ⊥
Another (screen i c) j = i ≡ j → ⊥
Another (turn i x) j = i ≡ j → ⊥

-- a deal that is refused returns no number
unfoldable pub turn_answer : ℕ → Answer → ScreenAnswer
turn_answer i a = cond (is_refused a) (one a) (deals (one_past i) a)
