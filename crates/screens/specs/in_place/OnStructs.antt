-- A run of eight structs, and what a call of the screens promises of it.
--
-- at ss i == screen i's struct; runs ss == which screens run, by their states alone
-- is_busy s, busy ss == whether a screen may not be loaded, and which: it runs, or its struct is no record
-- runs_in ps == which screens run, by a list of states
-- target_in ss c == whose call c is: a Load asks for eight records that are at rest, any other call depends on the
--   states
-- answer_of ss t, structs_of ss t == the answer of a call that is t's, and the structs after it; answer_all ss c,
--   structs_all ss c == of call c
-- deal_answer r == a deal's answer, as it is compared
-- ScreenDone == the promise
use Rattle.std.specs.Prelude.{ℕ, ◌<◌, ◌≡◌, Bool, true, cond, not, ◌||◌, List, eqb, length, get_or, set, replicate}
use Rattle.formats.specs.Inputs.{sizes_in}
use Rattle.model.specs.Calls.{load, advance, Answer, refused, is_running}
use Rattle.model.specs.Model.{loaded_record}
use Rattle.screens.specs.ScreenCalls.{ScreenCall, load_all, start_on, cancel_on, read_on, deal, ScreenAnswer, one, loads}
use Rattle.screens.specs.ScreenCalls.{deals, answer_in, refuses}
use Rattle.screens.specs.ScreenCalls.{Running, Target, nobody, every_screen, screen, turn, target, Another, turn_answer}
use Rattle.session.specs.declared.state.Phase.{Phase}
use Rattle.session.specs.declared.state.Phase.TheVariants.{Empty}
use Rattle.session.specs.declared.state.Session.{Session}
use Rattle.session.specs.Records.{phase_of, fresh_session, session_of, valid}
use Rattle.session.specs.Promises.{CallDone, answer_on, record_on}
use Rattle.std.specs.Prelude.{Result, Ok, Err}
use Rattle.formats.specs.Refusals.{refusal_number}
use Rattle.formats.specs.declared.refusals.Refusal.{Refusal}
use Rattle.session.specs.Answers.{advance_answer}
use Rattle.screens.specs.declared.in_place.Dealt.{Dealt}

abbrev pub at : List Session → ℕ → Session
at ss i = get_or ss i fresh_session

abbrev pub runs : List Session → Running
runs ss i = is_running (phase_of (at ss i).head.phase)

abbrev pub is_busy : Session → Bool
is_busy s = not (valid s) || is_running (phase_of s.head.phase)

abbrev pub busy : List Session → Running
busy ss i = is_busy (at ss i)

abbrev pub runs_in : List Phase → Running
runs_in ps i = is_running (phase_of (get_or ps i Empty))

unfoldable pub deal_answer : Result Dealt Refusal → ScreenAnswer
deal_answer (Ok d) = deals d.next (advance_answer (Ok d.progress))
deal_answer (Err r) = one (refused (refusal_number r))

-- ---- a call on the structs

unfoldable pub target_in : List Session → ScreenCall → Target
target_in ss (load_all x) = target (busy ss) (load_all x)
target_in ss (start_on i x vs bs) = target (runs ss) (start_on i x vs bs)
target_in ss (cancel_on i) = target (runs ss) (cancel_on i)
target_in ss (read_on i) = target (runs ss) (read_on i)
target_in ss (deal k x) = target (runs ss) (deal k x)

unfoldable pub answer_of : List Session → Target → ScreenAnswer
answer_of ss (nobody n) = one (refused n)
answer_of ss (every_screen x) = loads 0
answer_of ss (screen i c) = one (answer_on (at ss i) c)
answer_of ss (turn i x) = turn_answer i (answer_on (at ss i) (advance x))

unfoldable pub structs_of : List Session → Target → List Session
structs_of ss (nobody n) = ss
structs_of ss (every_screen x) = replicate 8 (session_of (loaded_record (sizes_in x)))
structs_of ss (screen i c) = set ss i (record_on (at ss i) c)
structs_of ss (turn i x) = set ss i (record_on (at ss i) (advance x))

-- "A screen number above 7, .. or a run of another length, gives 25, before everything else."
unfoldable pub answer_all : List Session → ScreenCall → ScreenAnswer
answer_all ss c = cond (eqb (length ss) 8) (answer_of ss (target_in ss c)) (one (refused 25))

unfoldable pub structs_all : List Session → ScreenCall → List Session
structs_all ss c = cond (eqb (length ss) 8) (structs_of ss (target_in ss c)) ss

-- ---- the promise

-- the session's own promise, of the screen whose call it is
abbrev pub OwnDone : List Session → List Session → Target → Answer → Type 0
OwnDone ss ss' (nobody n) a = Unit {0}
OwnDone ss ss' (every_screen x) a = (i : ℕ) → i < 8 → CallDone (at ss i) (load x) a (at ss' i)
OwnDone ss ss' (screen i c) a = CallDone (at ss i) c a (at ss' i)
OwnDone ss ss' (turn i x) a = CallDone (at ss i) (advance x) a (at ss' i)

pub record ScreenDone (ss : List Session) (c : ScreenCall) (a : ScreenAnswer) (ss' : List Session) : Type 0 where
  -- the answer, and all eight structs after
  pub tells : a ≡ answer_all ss c
  pub leaves : ss' ≡ structs_all ss c
  -- "nothing else is returned and nothing is altered"
  pub unchanged : refuses a ≡ true → ss' ≡ ss
  -- the screen whose call it is has what the session's own call promises; every other is as it was
  pub own : length ss ≡ 8 → OwnDone ss ss' (target_in ss c) (answer_in a)
  pub others : length ss ≡ 8 → (j : ℕ) → Another (target_in ss c) j → at ss' j ≡ at ss j
