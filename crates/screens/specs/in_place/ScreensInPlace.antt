-- The calls of the screens on a run of structs, as one relation.
--
-- ScreenInPlace ss c a ss' == call c on the structs ss returned a and left ss', by its promise: a Load, a Start, a
--   Cancel or a deal; a Read leaves the structs as they are
-- eight_sessions == eight fresh sessions
use Rattle.std.specs.Prelude.{ℕ, ◌≡◌, List, replicate}
use Rattle.screens.specs.ScreenCalls.{ScreenCall, read_on, ScreenAnswer}
use Rattle.session.specs.declared.state.Session.{Session}
use Rattle.session.specs.Records.{fresh_session}
use Rattle.screens.specs.in_place.OnStructs.{answer_all, ScreenDone}

pub data ScreenInPlace : List Session → ScreenCall → ScreenAnswer → List Session → Type 0 where
  does : {ss ss' : List Session} {c : ScreenCall} {a : ScreenAnswer} → ScreenDone ss c a ss' → ScreenInPlace ss c a ss'
  reads : {ss : List Session} (i : ℕ) {a : ScreenAnswer} → a ≡ answer_all ss (read_on i)
      → ScreenInPlace ss (read_on i) a ss

abbrev pub eight_sessions : List Session
eight_sessions = replicate 8 fresh_session
