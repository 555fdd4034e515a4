-- What the five calls promise, on every record and for any inputs.
--
-- answer_on s c, record_on s c, refusal_on s c == the answer of call c on struct s, the struct after it, and its refusal
--   number, ignoring 18.
--   A struct that breaks the layout's conditions gets 1; on any other the answer and the whole record are those of `act` (crate model, Model)
-- CallDone, LoadDone == the promises
use Rattle.std.specs.Prelude.{ℕ, ◌≡◌, true, cond, List}
use Rattle.formats.specs.Built.{built_node_table, built_state_table}
use Rattle.tables.specs.Answers.{written}
use Rattle.formats.specs.Inputs.{Inputs}
use Rattle.model.specs.Calls.{Call, load, Answer, refused}
use Rattle.model.specs.Refusals.{refusal}
use Rattle.model.specs.Model.{stage_of, act}
use Rattle.model.specs.LeftOpen.{LeftOpen}
use Rattle.session.specs.declared.state.Session.{Session}
use Rattle.session.specs.Records.{record_of, session_of, valid}

-- the answer and the record of a call on a struct
unfoldable pub answer_on : Session → Call → Answer
answer_on s c = cond (valid s) (act (record_of s) c).answer (refused 1)

unfoldable pub record_on : Session → Call → Session
record_on s c = cond (valid s) (session_of (act (record_of s) c).record') s

-- the refusal number of a call on a struct, ignoring 18
unfoldable pub refusal_on : Session → Call → ℕ
refusal_on s c = cond (valid s) (refusal (stage_of (record_of s)) c) 1

pub record CallDone (s : Session) (c : Call) (a : Answer) (s' : Session) : Type 0 where
  -- the answer and the whole record after
  pub tells : a ≡ answer_on s c
  pub leaves : s' ≡ record_on s c
  -- "nothing else is returned and nothing is altered"
  pub unchanged : (n : ℕ) → a ≡ refused n → s' ≡ s
  -- a struct that keeps the layout's conditions keeps them; the node table's numbers have 16 bits
  pub stays : valid s ≡ true → valid s' ≡ true
  -- what is left to the program has these properties
  pub properties : valid s ≡ true → LeftOpen (record_of s) c a (act (record_of s) c).record'

-- Load's besides: the tables of the definition in the buffers given, excess untouched; as at entry where it is refused
pub record LoadDone (s : Session) (x : Inputs) (a : Answer) (s' : Session) (node_table' state_table' : List ℕ) : Type 0 where
  pub call : CallDone s (load x) a s'
  pub node_table_written : node_table' ≡ written (refusal_on s (load x)) (built_node_table x.plan) x.node_table
  pub state_table_written : state_table' ≡ written (refusal_on s (load x)) (built_state_table x.plan x.rules) x.state_table
