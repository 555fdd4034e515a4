-- Cancel, by what the code has found.
use mathlib.Core.Path.{◌≡◌, refl, sym, ap, ◌∙◌}
use mathlib.Core.Bool.{Bool, true, false, not, ◌&&◌}
use mathlib.Core.List.{[]}
use borrow.Author.Tests.{not-true, not-false}
use Rattle.formats.specs.Checks.{first_no}
use Rattle.list_laws.proofs.BoolLaws.{and_left, and_right}
use Rattle.model.specs.Calls as calls
use Rattle.model.specs.Calls.{cancel, is_running}
use Rattle.model.specs.Refusals.{refusal}
use Rattle.model.specs.Model.{idle, proceeds}
use Rattle.std.specs.Prelude.{Result, Ok, Err}
use Rattle.formats.specs.declared.refusals.Refusal.{Refusal}
use Rattle.formats.specs.declared.refusals.Refusal.TheVariants.{SessionState}
use Rattle.session.specs.declared.state.Phase.TheVariants.{Loaded}
use Rattle.session.specs.declared.state.Last.{Last}
use Rattle.session.specs.declared.state.Session.{Session}
use Rattle.session.specs.Records.{phase_of, phase_to, record_of, session_of, idle_session, valid}
use Rattle.session.specs.Answers.{call_answer}
use Rattle.session.specs.Promises.{CallDone}
use Rattle.session.specs.inner.Shapes.{Shaped}
use Rattle.session.proofs.Holds.{tails-of}
use Rattle.session.proofs.CallLaws.{unless-done, proceeds-done}

module _ (s : Session) (h : Shaped s) (b : Bool) (e : b ≡ (valid s && is_running (phase_of s.head.phase))) where
  pub cancel-no : not b ≡ true → CallDone s cancel (call_answer (Err SessionState)) s
  unfolding call_answer refusal
  cancel-no f = unless-done s cancel h (is_running (phase_of s.head.phase)) [] refl (sym e ∙ not-true b f)

  pub cancel-yes : not b ≡ false → (t : Session) → t ≡ idle_session Loaded s.head.sizes s.head.last
      → CallDone s cancel (call_answer (Ok tt)) t
  unfolding call_answer refusal proceeds record_of session_of phase_to idle first_no
  cancel-yes f t g =
      let y = sym e ∙ not-false b f in
      let r : is_running (phase_of s.head.phase) ≡ true = and_right (valid s) _ y in
      let v : valid s ≡ true = and_left (valid s) _ y in
      proceeds-done s cancel h v tt (rw r) calls.Answer.accepted t refl
      (g ∙ ap (λ (o : Last). idle_session Loaded s.head.sizes o) (sym (tails-of s v).last_end))
