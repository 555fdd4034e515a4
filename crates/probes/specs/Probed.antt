-- What the probes promise, by the definitions of the layers below.
--
-- RootsProbed x n l == how many roots the answer x has, and the roots with zeros behind them; 0 and zeros where they
--   are refused
-- part_in x == the state and the links of part x; 16 and 0 where it is refused
--
-- loaded_with n s k == a loaded session of N, S and K
-- advanced i x s == session s after i advances with the inputs x
-- answer_by f g a == the answer of the model: what g gives of the value, or the number that f gives the refusal
-- accepted_in u, outcome_in o == the answer of Load and Cancel, and of Read, where they are accepted
-- parts_in a == the number of parts in answer a; 0 for any other answer
-- steps_in x vs bs i s == the parts of a question, and its links after i advances
-- after x vs bs i s == session s after Start and i advances; start_parts x vs bs s == the parts that Start returns
-- read_in a == the outcome in answer a of Read; state 16 and zeros for any other
-- question_in x vs bs s == what Read returns after Start and an advance for each part
-- call_number a == the number of an answer to Load or Cancel: 0 for one that is no refusal
-- life_in x y vs bs == what a life of a session returns, Load given x and the later calls y: from fresh, Load, Start,
--   Cancel and a question
use Rattle.std.specs.Prelude.{ℕ, zero, suc, ◌≡◌, false, List, Result, Ok, Err}
use Rattle.tables.specs.declared.answers.Climbed.{Climbed}
use Rattle.tables.specs.declared.answers.Climbed.TheVariants.{Reached as To, OutOfRange}
use Rattle.questions.specs.declared.roots.Rooted.{Rooted}
use Rattle.formats.specs.Inputs.{Inputs}
use Rattle.model.specs.Calls.{load, start, advance, cancel, read, Answer, refused, accepted, outcome_answer}
use Rattle.model.specs.Calls.{on_parts, on_refused, on_outcome}
use Rattle.session.specs.declared.state.Session.{Session}
use Rattle.session.specs.declared.answers.Outcome.{Outcome}
use Rattle.session.specs.Promises.{answer_on, record_on}
use Rattle.session.specs.Records.{session_of, fresh_session}
use Rattle.session.specs.inner.Shapes.{loaded_by}
use Rattle.probes.specs.declared.layers.Part.{Part}
use Rattle.probes.specs.declared.whole.Steps.{Steps}
use Rattle.probes.specs.declared.whole.Question.{Question}
use Rattle.probes.specs.declared.whole.Life.{Life}

pub record RootsProbed (x : Rooted) (n : ℕ) (l : List ℕ) : Type 0 where
  pub count : n ≡ x.count
  pub roots : l ≡ x.nodes

abbrev pub part_in : Climbed → Part
part_in OutOfRange = record { state = 16; links = 0 }
part_in (To x) = record { state = x.state; links = x.links }

-- ---- the session

abbrev pub loaded_with : ℕ → ℕ → ℕ → Session
loaded_with n s k = session_of (loaded_by n s k)

unfoldable pub advanced : ℕ → Inputs → Session → Session
advanced zero x s = s
advanced (suc i) x s = advanced i x (record_on s (advance x))

abbrev pub answer_by : {A E : Type 0} → (E → ℕ) → (A → Answer) → Result A E → Answer
answer_by f g (Ok x) = g x
answer_by f g (Err e) = refused (f e)

abbrev pub accepted_in : Unit {0} → Answer
accepted_in u = accepted

abbrev pub outcome_in : Outcome → Answer
outcome_in o = outcome_answer o.state o.yes o.parts o.links o.passed

unfoldable pub parts_in : Answer → ℕ
parts_in a = on_parts (λ p. p) 0 a

unfoldable pub after : Inputs → List ℕ → List ℕ → ℕ → Session → Session
after x vs bs i s = advanced i x (record_on s (start x vs bs))

unfoldable pub start_parts : Inputs → List ℕ → List ℕ → Session → ℕ
start_parts x vs bs s = parts_in (answer_on s (start x vs bs))

unfoldable pub steps_in : Inputs → List ℕ → List ℕ → ℕ → Session → Steps
steps_in x vs bs i s = record { parts = start_parts x vs bs s; links = (after x vs bs i s).head.links }

abbrev pub nothing_in : Question
nothing_in = record { state = 16; yes = false; parts = 0; links = 0 }

unfoldable pub read_in : Answer → Question
read_in a =
    on_outcome (λ o. record { state = o.state; yes = o.yes; parts = o.parts; links = o.links }) nothing_in a

unfoldable pub question_in : Inputs → List ℕ → List ℕ → Session → Question
question_in x vs bs s = read_in (answer_on (after x vs bs (start_parts x vs bs s) s) read)

unfoldable pub call_number : Answer → ℕ
call_number a = on_refused (λ n. n) 0 a

-- the session after Load, and after Load, Start and Cancel
unfoldable pub once_loaded : Inputs → Session
once_loaded x = record_on fresh_session (load x)

unfoldable pub once_started : Inputs → Inputs → List ℕ → List ℕ → Session
once_started x y vs bs = record_on (once_loaded x) (start y vs bs)

unfoldable pub life_in : Inputs → Inputs → List ℕ → List ℕ → Life
life_in x y vs bs = record {
  load = call_number (answer_on fresh_session (load x));
  parts = start_parts y vs bs (once_loaded x);
  cancel = call_number (answer_on (once_started x y vs bs) cancel);
  again = question_in y vs bs (record_on (once_started x y vs bs) cancel);
}
