-- The model of eight screens: their records, and a call on them.
--
-- at rs i == screen i's record; runs rs == which screens run
-- act_on rs t == a call on the records rs that is t's: its answer, and the records then
-- act_all rs c == a call of the screens; DoesAll rs c a rs' == the same as a relation
-- eight_fresh == the records of eight fresh screens
use Rattle.std.specs.Prelude.{ℕ, ◌≡◌, cond, List, eqb, length, get_or, set, replicate}
use Rattle.formats.specs.Inputs.{sizes_in}
use Rattle.model.specs.Calls.{advance, refused, is_running}
use Rattle.model.specs.Model.{Record, fresh_record, loaded_record, act}
use Rattle.screens.specs.ScreenCalls.{ScreenCall, ScreenAnswer, one, loads, Running, Target, nobody, every_screen}
use Rattle.screens.specs.ScreenCalls.{screen, turn}
use Rattle.screens.specs.ScreenCalls.{target, turn_answer}

abbrev pub at : List Record → ℕ → Record
at rs i = get_or rs i fresh_record

abbrev pub runs : List Record → Running
runs rs i = is_running (at rs i).phase

pub record ActedAll : Type 0 where
  pub answer : ScreenAnswer
  pub records' : List Record

-- "Load .. clears them all"; Start, Cancel and Read look at the named record alone, a deal at the one that it serves
unfoldable pub act_on : List Record → Target → ActedAll
act_on rs (nobody n) = record { answer = one (refused n); records' = rs }
act_on rs (every_screen x) = record { answer = loads 0; records' = replicate 8 (loaded_record (sizes_in x)) }
act_on rs (screen i c) = record {
  answer = one (act (at rs i) c).answer;
  records' = set rs i
      (act (at rs i) c).record';
}
act_on rs (turn i x) = record {
  answer = turn_answer i (act (at rs i) (advance x)).answer;
  records' = set rs i (act (at rs i) (advance x)).record';
}

-- "or a run of another length, gives 25, before everything else"
unfoldable pub act_all : List Record → ScreenCall → ActedAll
act_all rs c = cond (eqb (length rs) 8) (act_on rs (target (runs rs) c)) (act_on rs (nobody 25))

pub record DoesAll (rs : List Record) (c : ScreenCall) (a : ScreenAnswer) (rs' : List Record) : Type 0 where
  pub tells : a ≡ (act_all rs c).answer
  pub leaves : rs' ≡ (act_all rs c).records'

abbrev pub eight_fresh : List Record
eight_fresh = replicate 8 fresh_record
