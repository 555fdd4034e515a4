-- What the exported session calls promise: the record as bytes in and out, the answer's number and values.
--
-- answer_for b c == the answer of call c on record bytes b: 1 for bytes that are not laid out as a record, else the struct's (crate session)
-- answer_number a == document 01's number of an answer: 0 accepted, else the refusal's
-- record_for b c == the bytes after it: as they were where it is refused, else those of the struct after the call
-- parts_of a old, finished_of a old, answered_places a old == what an output parameter holds afterwards: the answer's
--   value, or the old one
-- CallExported, StartExported, AdvanceExported, ReadExported, LoadExported == the promises
use Rattle.std.specs.Prelude.{ℕ, ◌≡◌, true, cond, List}
use Rattle.formats.specs.Built.{built_node_table, built_state_table}
use Rattle.tables.specs.Answers.{written}
use Rattle.formats.specs.Inputs.{Inputs}
use Rattle.model.specs.Calls.{Call, load, read, Answer, refused, on_refused, on_parts, on_advance, on_outcome}
use Rattle.model.specs.Model.{act}
use Rattle.model.specs.LeftOpen.{LeftOpen}
use Rattle.session.specs.Records.{record_of, valid}
use Rattle.session.specs.Promises.{answer_on, record_on, refusal_on}
use Rattle.records.specs.Layout.{encoded, decoded, laid_out, valid_bytes}
use Rattle.capi.specs.numbers.Numbers.{bit_of}

-- "bytes that break it get 1"
unfoldable pub answer_for : List ℕ → Call → Answer
answer_for b c = cond (laid_out b) (answer_on (decoded b) c) (refused 1)

unfoldable pub answer_number : Answer → ℕ
answer_number a = on_refused (λ n. n) 0 a

-- "nothing else is returned and nothing is altered"
unfoldable pub unless_refused : Answer → List ℕ → List ℕ → List ℕ
unless_refused a new old = on_refused (λ n. old) new a

unfoldable pub record_for : List ℕ → Call → List ℕ
record_for b c = unless_refused (answer_for b c) (encoded (record_on (decoded b) c)) b

pub record CallExported (b : List ℕ) (c : Call) (r : ℕ) (b' : List ℕ) : Type 0 where
  pub number : r ≡ answer_number (answer_for b c)
  pub left : b' ≡ record_for b c
  -- a record stays one: what a call leaves keeps the layout's conditions
  pub stays : valid_bytes b ≡ true → valid (record_on (decoded b) c) ≡ true
  -- what is left to the program has these properties
  pub properties : valid_bytes b ≡ true → LeftOpen (record_of (decoded b)) c (answer_for b c) (act (record_of (decoded b)) c).record'

-- the refusal number, ignoring 18, of a Load on record bytes
unfoldable pub load_number : List ℕ → Inputs → ℕ
load_number b x = cond (laid_out b) (refusal_on (decoded b) (load x)) 1

pub record LoadExported (b : List ℕ) (x : Inputs) (r : ℕ) (b' node_table' state_table' : List ℕ) : Type 0 where
  pub call : CallExported b (load x) r b'
  pub node_table_written : node_table' ≡ written (load_number b x) (built_node_table x.plan) x.node_table
  pub state_table_written : state_table' ≡ written (load_number b x) (built_state_table x.plan x.rules) x.state_table

unfoldable pub parts_of : Answer → ℕ → ℕ
parts_of a old = on_parts (λ p. p) old a

pub record StartExported (b : List ℕ) (c : Call) (r : ℕ) (b' : List ℕ) (parts₀ parts₁ : ℕ) : Type 0 where
  pub call : CallExported b c r b'
  pub parts_after : parts₁ ≡ parts_of (answer_for b c) parts₀

unfoldable pub finished_of : Answer → ℕ → ℕ
finished_of a old = on_advance 0 1 old a

pub record AdvanceExported (b : List ℕ) (c : Call) (r : ℕ) (b' : List ℕ) (finished₀ finished₁ : ℕ) : Type 0 where
  pub call : CallExported b c r b'
  pub finished_after : finished₁ ≡ finished_of (answer_for b c) finished₀

-- the five values of Read, one output parameter each
pub record Places : Type 0 where
  pub state : ℕ
  pub yes : ℕ
  pub parts : ℕ
  pub links : ℕ
  pub passed : ℕ

unfoldable pub answered_places : Answer → Places → Places
answered_places a old =
    on_outcome (λ o. record { state = o.state; yes = bit_of o.yes; parts = o.parts; links = o.links; passed = o.passed }) old a

pub record ReadExported (b : List ℕ) (r : ℕ) (before after : Places) : Type 0 where
  pub number : r ≡ answer_number (answer_for b read)
  pub values_are : after ≡ answered_places (answer_for b read) before
