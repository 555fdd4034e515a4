-- What a Load over eight structs promises.
--
-- load_answer r == its answer, as it is compared: an accepted one returns 0, the screen to try first
-- load_number ss x == the number of the first failing check; 0 where none fails
-- LoadAllDone == the promise: that of a call of the screens, and the tables in the buffers given, excess untouched; as
--   at entry where it is refused
use Rattle.std.specs.Prelude.{ℕ, ◌≡◌, List}
use Rattle.formats.specs.Built.{built_node_table, built_state_table}
use Rattle.formats.specs.Checks.{first_no}
use Rattle.formats.specs.Inputs.{Inputs}
use Rattle.tables.specs.Answers.{written}
use Rattle.model.specs.Calls.{refused}
use Rattle.screens.specs.ScreenCalls.{load_all, ScreenAnswer, one, loads, load_all_checks}
use Rattle.session.specs.declared.state.Session.{Session}
use Rattle.std.specs.Prelude.{Result, Ok, Err}
use Rattle.formats.specs.Refusals.{refusal_number}
use Rattle.formats.specs.declared.refusals.Refusal.{Refusal}
use Rattle.screens.specs.in_place.OnStructs.{busy, ScreenDone}

unfoldable pub load_answer : Result Unit Refusal → ScreenAnswer
load_answer (Ok u) = loads 0
load_answer (Err r) = one (refused (refusal_number r))

abbrev pub load_number : List Session → Inputs → ℕ
load_number ss x = first_no (load_all_checks (busy ss) x)

pub record LoadAllDone (ss : List Session) (x : Inputs) (a : ScreenAnswer) (ss' : List Session)
    (node_table' state_table' : List ℕ) : Type 0 where
  pub call : ScreenDone ss (load_all x) a ss'
  pub node_table_written : node_table' ≡ written (load_number ss x) (built_node_table x.plan) x.node_table
  pub state_table_written : state_table' ≡ written (load_number ss x) (built_state_table x.plan x.rules)
      x.state_table
