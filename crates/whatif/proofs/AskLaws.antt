-- The iterations of a question: what follows from each answer of a call.
--     more-iteration, finished-iteration, refused-iteration      an advance
--     started-on, start-refused                   a Start
use Prim.Native.Nat.{ℕ, suc}
use mathlib.Core.Path.{◌≡◌, refl, sym, ap, ◌∙◌}
use mathlib.Core.List.{List}
use Rattle.formats.specs.Inputs.{Inputs}
use Rattle.model.specs.Calls.{start, advance, read}
use Rattle.session.specs.declared.state.Session.{Session}
use Rattle.std.specs.Prelude.{Result, Ok, Err, IsErrAnd}
use Rattle.formats.specs.Refusals.{refusal_number}
use Rattle.formats.specs.declared.refusals.Refusal.{Refusal}
use Rattle.model.specs.Calls.{refused}
use Rattle.session.specs.declared.answers.Outcome.{Outcome}
use Rattle.session.specs.declared.answers.Progress.{Progress}
use Rattle.session.specs.declared.answers.Progress.TheVariants.{More, Finished}
use Rattle.session.specs.Answers.{start_answer, advance_answer, read_answer}
use Rattle.session.specs.Promises.{CallDone, answer_on}
use Rattle.whatif.specs.Asked.{after_advance, finished_in, most_parts, after_start, asked_on}

-- what `?` returns of a refused call
handed-on : (a : Result Outcome Refusal) (r : Refusal) → IsErrAnd a (λ e. e ≡ r) → read_answer a ≡ refused (refusal_number r)
unfolding read_answer
handed-on (Ok o) r h = absurd h
handed-on (Err e) r h = ap (λ (t : Refusal). refused (refusal_number t)) h

module _ (f : ℕ) (s s' : Session) (x : Inputs) (result : Result Progress Refusal) (done : CallDone s (advance x) (advance_answer result) s') where
  -- what the definition makes of the answer that was returned
  unfolded : finished_in (suc f) s x ≡ after_advance (advance_answer result) (answer_on s' read) (finished_in f s' x)
  unfolding finished_in
  unfolded = rw (done.tells, done.leaves) refl

  pub more-iteration : result ≡ Ok More → finished_in (suc f) s x ≡ finished_in f s' x
  unfolding after_advance advance_answer
  more-iteration e = unfolded ∙ ap (λ (t : Result Progress Refusal). after_advance (advance_answer t) (answer_on s' read) (finished_in f s' x)) e

  pub finished-iteration : result ≡ Ok Finished → finished_in (suc f) s x ≡ answer_on s' read
  unfolding after_advance advance_answer
  finished-iteration e = unfolded ∙ ap (λ (t : Result Progress Refusal). after_advance (advance_answer t) (answer_on s' read) (finished_in f s' x)) e

  pub refused-iteration : (r : Refusal) → result ≡ Err r → (a : Result Outcome Refusal) → IsErrAnd a (λ e. e ≡ r)
      → read_answer a ≡ finished_in (suc f) s x
  unfolding after_advance advance_answer
  refused-iteration r e a h =
      handed-on a r h ∙ sym (unfolded ∙ ap (λ (t : Result Progress Refusal). after_advance (advance_answer t) (answer_on s' read) (finished_in f s' x)) e)

module _ (s s' : Session) (x : Inputs) (vs bs : List ℕ) (result : Result ℕ Refusal)
    (done : CallDone s (start x vs bs) (start_answer result) s') where
  begun : asked_on s x vs bs ≡ after_start (start_answer result) (finished_in most_parts s' x)
  unfolding asked_on
  begun = rw (done.tells, done.leaves) refl

  pub started-on : (p : ℕ) → result ≡ Ok p → asked_on s x vs bs ≡ finished_in most_parts s' x
  unfolding after_start start_answer
  started-on p e = begun ∙ ap (λ (t : Result ℕ Refusal). after_start (start_answer t) (finished_in most_parts s' x)) e

  pub start-refused : (r : Refusal) → result ≡ Err r → (a : Result Outcome Refusal) → IsErrAnd a (λ e. e ≡ r)
      → read_answer a ≡ asked_on s x vs bs
  unfolding after_start start_answer
  start-refused r e a h =
      handed-on a r h ∙ sym (begun ∙ ap (λ (t : Result ℕ Refusal). after_start (start_answer t) (finished_in most_parts s' x)) e)
