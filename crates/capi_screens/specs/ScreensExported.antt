-- What the exported calls of the screens promise: the run of records as bytes in and out, the answer's number and
-- values.
--
-- target_in b c == whose call c is on the run b: a Load asks for eight records that are at rest, any other call depends
--   on the states
-- answer_of b t, bytes_of b t == the answer of a call that is t's, and the run after it; answer_all_for b c, bytes_for b c
--   == of call c: the one-record call (crate capi_session) on the bytes of the screen whose call it is
-- number_for b c == the answer's number, 0 where it is accepted
-- ScreensCallExported, ScreensStartExported, ScreensDealExported, ScreensReadExported, ScreensLoadExported == the
--   promises. Output parameters are written only on success
use Rattle.std.specs.Prelude.{ℕ, ◌<◌, ◌≡◌, cond, List, eqb, length}
use Rattle.list_laws.specs.Rows.{rows}
use Rattle.formats.specs.Built.{built_node_table, built_state_table}
use Rattle.formats.specs.Checks.{first_no}
use Rattle.formats.specs.Inputs.{Inputs, sizes_in}
use Rattle.tables.specs.Answers.{written}
use Rattle.model.specs.Calls.{load, advance, refused}
use Rattle.model.specs.Model.{loaded_record}
use Rattle.screens.specs.ScreenCalls.{ScreenCall, load_all, start_on, cancel_on, read_on, deal, ScreenAnswer, one, loads}
use Rattle.screens.specs.ScreenCalls.{answer_in, load_all_checks, Target, nobody, every_screen, screen, turn, target}
use Rattle.screens.specs.ScreenCalls.{Another, turn_answer}
use Rattle.screens.specs.Turns.{number_after}
use Rattle.session.specs.Records.{session_of}
use Rattle.records.specs.Layout.{encoded}
use Rattle.capi_session.specs.SessionExported.{answer_for, answer_number, record_for, CallExported, parts_of, finished_of}
use Rattle.capi_session.specs.SessionExported.{Places, answered_places}
use Rattle.capi_screens.specs.RunLayout.{run_length, record_at, with_record, runs, busy}

-- ---- a call on the run

unfoldable pub target_in : List ℕ → ScreenCall → Target
target_in b (load_all x) = target (busy b) (load_all x)
target_in b (start_on i x vs bs) = target (runs b) (start_on i x vs bs)
target_in b (cancel_on i) = target (runs b) (cancel_on i)
target_in b (read_on i) = target (runs b) (read_on i)
target_in b (deal k x) = target (runs b) (deal k x)

unfoldable pub answer_of : List ℕ → Target → ScreenAnswer
answer_of b (nobody n) = one (refused n)
answer_of b (every_screen x) = loads 0
answer_of b (screen i c) = one (answer_for (record_at b i) c)
answer_of b (turn i x) = turn_answer i (answer_for (record_at b i) (advance x))

unfoldable pub bytes_of : List ℕ → Target → List ℕ
bytes_of b (nobody n) = b
bytes_of b (every_screen x) = rows 8 (λ i. encoded (session_of (loaded_record (sizes_in x))))
bytes_of b (screen i c) = with_record b i (record_for (record_at b i) c)
bytes_of b (turn i x) = with_record b i (record_for (record_at b i) (advance x))

-- "A screen number above 7, .. or a run of another length, gives 25, before everything else."
unfoldable pub answer_all_for : List ℕ → ScreenCall → ScreenAnswer
answer_all_for b c = cond (eqb (length b) run_length) (answer_of b (target_in b c)) (one (refused 25))

unfoldable pub bytes_for : List ℕ → ScreenCall → List ℕ
bytes_for b c = cond (eqb (length b) run_length) (bytes_of b (target_in b c)) b

abbrev pub number_for : List ℕ → ScreenCall → ℕ
number_for b c = answer_number (answer_in (answer_all_for b c))

-- ---- the promises

-- the one-record promise, of the screen whose call it is
abbrev pub OwnExported : List ℕ → List ℕ → Target → ℕ → Type 0
OwnExported b b' (nobody n) r = Unit {0}
OwnExported b b' (every_screen x) r = (i : ℕ) → i < 8 → CallExported (record_at b i) (load x) r (record_at b' i)
OwnExported b b' (screen i c) r = CallExported (record_at b i) c r (record_at b' i)
OwnExported b b' (turn i x) r = CallExported (record_at b i) (advance x) r (record_at b' i)

pub record ScreensCallExported (b : List ℕ) (c : ScreenCall) (r : ℕ) (b' : List ℕ) : Type 0 where
  pub number : r ≡ number_for b c
  pub left : b' ≡ bytes_for b c
  -- "nothing else is returned and nothing is altered"
  pub unchanged : (r ≡ 0 → ⊥) → b' ≡ b
  -- the screen whose call it is has what the one-record call promises; every other is as it was
  pub own : length b ≡ run_length → OwnExported b b' (target_in b c) r
  pub others : length b ≡ run_length → (j : ℕ) → j < 8 → Another (target_in b c) j → record_at b' j ≡ record_at b j

pub record ScreensStartExported (b : List ℕ) (c : ScreenCall) (r : ℕ) (b' : List ℕ) (parts₀ parts₁ : ℕ) : Type 0 where
  pub call : ScreensCallExported b c r b'
  pub parts_after : parts₁ ≡ parts_of (answer_in (answer_all_for b c)) parts₀

-- "A deal tells that number and what the advance tells."
pub record ScreensDealExported (b : List ℕ) (c : ScreenCall) (r : ℕ) (b' : List ℕ)
    (next₀ next₁ finished₀ finished₁ : ℕ) : Type 0 where
  pub call : ScreensCallExported b c r b'
  pub next_after : next₁ ≡ number_after next₀ (answer_all_for b c)
  pub finished_after : finished₁ ≡ finished_of (answer_in (answer_all_for b c)) finished₀

pub record ScreensReadExported (b : List ℕ) (i r : ℕ) (before after : Places) : Type 0 where
  pub number : r ≡ number_for b (read_on i)
  pub values_are : after ≡ answered_places (answer_in (answer_all_for b (read_on i))) before

-- the number of the first failing check of a Load; 0 where none fails
unfoldable pub load_number : List ℕ → Inputs → ℕ
load_number b x = cond (eqb (length b) run_length) (first_no (load_all_checks (busy b) x)) 25

-- an accepted Load reports 0, the screen to try first
pub record ScreensLoadExported (b : List ℕ) (x : Inputs) (r : ℕ) (b' node_table' state_table' : List ℕ)
    (next₀ next₁ : ℕ) : Type 0 where
  pub call : ScreensCallExported b (load_all x) r b'
  pub next_after : next₁ ≡ number_after next₀ (answer_all_for b (load_all x))
  pub node_table_written : node_table' ≡ written (load_number b x) (built_node_table x.plan) x.node_table
  pub state_table_written : state_table' ≡ written (load_number b x) (built_state_table x.plan x.rules)
      x.state_table
