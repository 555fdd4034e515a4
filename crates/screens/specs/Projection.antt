-- What of a list of screen calls is one screen's.
--
-- Fed == a call of a single session and its answer
-- fed_by i t a == what a call that is t's, with the answer a, is to screen i; none where it is not its
-- fed_to run i c a == the same of a call of the screens, while run says who runs
-- still_runs b a == whether a screen runs after the answer a, b before; followed run c a == who runs after a call of the
--   screens
-- project i run cs xs == screen i's calls and answers among the calls cs with the answers xs; run says who runs at
--   first
-- own_calls i run cs xs, own_answers i run cs xs == its calls, its answers
-- running_after run cs xs == who runs after them
--
-- Who runs is followed by calls and answers alone, never from the records.
use Rattle.std.specs.Prelude.{ℕ, Bool, true, false, cond, List, [], ◌∷◌, eqb}
use Rattle.std.proofs.Math.Option.{Option, none, some}
use Rattle.model.specs.Calls.{Call, load, advance, Answer, refused, parts, more, finished, outcome}
use Rattle.screens.specs.ScreenCalls.{ScreenCall, ScreenAnswer, answer_in, Running, Target, nobody, every_screen}
use Rattle.screens.specs.ScreenCalls.{screen, turn, target}

pub record Fed : Type 0 where
  pub call : Call
  pub answer : Answer

abbrev pub fed : Call → Answer → Fed
fed c a = record { call = c; answer = a }

-- "fed with the accepted Loads, its own calls and its turns as advances": refused calls of its own and refused turns
-- too
unfoldable pub fed_by : ℕ → Target → Answer → Option Fed
fed_by i (nobody n) a = none
fed_by i (every_screen x) a = some (fed (load x) a)
fed_by i (screen j c) a = cond (eqb i j) (some (fed c a)) none
fed_by i (turn j x) a = cond (eqb i j) (some (fed (advance x) a)) none

abbrev pub fed_to : Running → ℕ → ScreenCall → ScreenAnswer → Option Fed
fed_to run i c a = fed_by i (target run c) (answer_in a)

-- ---- who runs

unfoldable pub still_runs : Bool → Answer → Bool
still_runs b (refused n) = b
still_runs b Answer.accepted = false
still_runs b (parts p) = true
still_runs b more = true
still_runs b finished = false
still_runs b (outcome o) = b

unfoldable pub still_runs_by : Bool → Option Fed → Bool
still_runs_by b none = b
still_runs_by b (some f) = still_runs b f.answer

abbrev pub followed : Running → ScreenCall → ScreenAnswer → Running
followed run c a i = still_runs_by (run i) (fed_to run i c a)

abbrev pub running_after : Running → List ScreenCall → List ScreenAnswer → Running
running_after run [] xs = run
running_after run (c ∷ cs) [] = run
running_after run (c ∷ cs) (a ∷ xs) = running_after (followed run c a) cs xs

-- ---- a screen's calls and answers

abbrev pub before : Option Fed → List Fed → List Fed
before none l = l
before (some f) l = f ∷ l

unfoldable pub project : ℕ → Running → List ScreenCall → List ScreenAnswer → List Fed
project i run [] xs = []
project i run (c ∷ cs) [] = []
project i run (c ∷ cs) (a ∷ xs) = before (fed_to run i c a) (project i (followed run c a) cs xs)

abbrev pub calls_of : List Fed → List Call
calls_of [] = []
calls_of (f ∷ l) = f.call ∷ calls_of l

abbrev pub answers_of : List Fed → List Answer
answers_of [] = []
answers_of (f ∷ l) = f.answer ∷ answers_of l

abbrev pub own_calls : ℕ → Running → List ScreenCall → List ScreenAnswer → List Call
own_calls i run cs xs = calls_of (project i run cs xs)

abbrev pub own_answers : ℕ → Running → List ScreenCall → List ScreenAnswer → List Answer
own_answers i run cs xs = answers_of (project i run cs xs)
