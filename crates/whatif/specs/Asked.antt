-- A question asked of a session: the calls that the program makes, and what they return in the end.
--
-- finished_in f s x == what the session s answers after it is advanced until finished, at most f times, on the inputs x,
--   and read
-- asked_on s x vs bs == what it answers to the changes vs to bs: Start's refusal, or the above
-- most_parts == no question has more parts, so that number of advances is enough
--
-- By the promises of the session's calls (crate session, Promises). What they come to on tables as built is answer_to (Cleared).
use Rattle.std.specs.Prelude.{ℕ, zero, suc, List}
use Rattle.formats.specs.Inputs.{Inputs}
use Rattle.model.specs.Calls.{Answer, refused, start, on_refused, on_advance, advance, read}
use Rattle.session.specs.declared.state.Session.{Session}
use Rattle.session.specs.Promises.{answer_on, record_on}

-- after an advance that answered a: r where it finished, m where there is more
unfoldable pub after_advance : Answer → Answer → Answer → Answer
after_advance a r m = on_refused refused (on_advance m r m a) a

unfoldable pub finished_in : ℕ → Session → Inputs → Answer
finished_in zero s x = answer_on s read
finished_in (suc f) s x =
    after_advance (answer_on s (advance x)) (answer_on (record_on s (advance x)) read) (finished_in f (record_on s (advance x)) x)

abbrev pub most_parts : ℕ
most_parts = 254

-- after a Start that answered a: r where it is accepted
unfoldable pub after_start : Answer → Answer → Answer
after_start a r = on_refused refused r a

unfoldable pub asked_on : Session → Inputs → List ℕ → List ℕ → Answer
asked_on s x vs bs = after_start (answer_on s (start x vs bs)) (finished_in most_parts (record_on s (start x vs bs)) x)
