-- The five calls of the session and their answers, as they are compared.
--
-- Call == a call with its inputs beside the record; Cancel and Read need only the record
-- Answer == "Compared are acceptance, refusal numbers and what Start, advance and Read tell."
-- Outcome == what Read returns; outcome_answer s y p l d == the answer with these five values
-- on_refused f d a, on_parts f d a, on_outcome f d a == f of a refusal's number, of Start's parts, of Read's outcome; d of any other
--   answer
-- on_advance m f d a == m of more, f of finished; d of any other answer
-- is_refused a == whether an answer is a refusal
-- Phase == which of the four states a session is in
-- may_load, may_start, is_running == in which states a call may be made; Read depends on whether there is an answer
-- is_some o == whether an option holds something
use Rattle.std.specs.Prelude.{ℕ, Bool, true, false, List}
use Rattle.std.proofs.Math.Option.{Option, none, some}
use Rattle.formats.specs.Inputs.{Inputs}

pub data Call : Type 0 where
  load : Inputs → Call
  -- the listed nodes and their labels, as two lists: 12 asks whether they are of one length
  start : Inputs → List ℕ → List ℕ → Call
  advance : Inputs → Call
  cancel : Call
  read : Call

-- "state, yes or no, parts, links"; document 02 (S-7): "shown last", the nodes passed over
pub record Outcome : Type 0 where
  pub state : ℕ
  pub yes : Bool
  pub parts : ℕ
  pub links : ℕ
  pub passed : ℕ

pub data Answer : Type 0 where
  refused : ℕ → Answer
  accepted : Answer
  parts : ℕ → Answer
  more : Answer
  finished : Answer
  outcome : Outcome → Answer

abbrev pub outcome_answer : ℕ → Bool → ℕ → ℕ → ℕ → Answer
outcome_answer s y p l d = outcome (record { state = s; yes = y; parts = p; links = l; passed = d })

-- ---- cases of an answer, shared

abbrev pub on_refused : {A : Type 0} → (ℕ → A) → A → Answer → A
on_refused f d (refused n) = f n
on_refused f d accepted = d
on_refused f d (parts p) = d
on_refused f d more = d
on_refused f d finished = d
on_refused f d (outcome o) = d

abbrev pub on_parts : {A : Type 0} → (ℕ → A) → A → Answer → A
on_parts f d (refused n) = d
on_parts f d accepted = d
on_parts f d (parts p) = f p
on_parts f d more = d
on_parts f d finished = d
on_parts f d (outcome o) = d

abbrev pub on_advance : {A : Type 0} → A → A → A → Answer → A
on_advance m f d (refused n) = d
on_advance m f d accepted = d
on_advance m f d (parts p) = d
on_advance m f d more = m
on_advance m f d finished = f
on_advance m f d (outcome o) = d

abbrev pub on_outcome : {A : Type 0} → (Outcome → A) → A → Answer → A
on_outcome f d (refused n) = d
on_outcome f d accepted = d
on_outcome f d (parts p) = d
on_outcome f d more = d
on_outcome f d finished = d
on_outcome f d (outcome o) = f o

abbrev pub is_refused : Answer → Bool
is_refused a = on_refused (λ n. true) false a

pub data Phase : Type 0 where
  empty : Phase
  loaded : Phase
  running : Phase
  answered : Phase

-- "Load is allowed unless running; Start in loaded or answered; advance and Cancel in running"; Read, by document 02 (S-1), "in every state
-- once such an answer is there"
unfoldable pub may_load : Phase → Bool
may_load empty = true
may_load loaded = true
may_load running = false
may_load answered = true

unfoldable pub may_start : Phase → Bool
may_start empty = false
may_start loaded = true
may_start running = false
may_start answered = true

unfoldable pub is_running : Phase → Bool
is_running empty = false
is_running loaded = false
is_running running = true
is_running answered = false

abbrev pub is_some : {A : Type 0} → Option A → Bool
is_some none = false
is_some (some a) = true
