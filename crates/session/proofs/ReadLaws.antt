-- Read, by what the code has found.
--     read_no, read-yes     check 1 says no, and yes
use mathlib.Core.Path.{◌≡◌, refl, sym, ap, ◌∙◌}
use mathlib.Core.Bool.{Bool, true, false, not, ◌&&◌}
use mathlib.Core.List.{[]}
use borrow.Author.Tests.{not-true, not-false}
use Rattle.formats.specs.Checks.{first_no}
use Rattle.list_laws.proofs.BoolLaws.{and_left, and_right}
use Rattle.model.specs.Calls as calls
use Rattle.model.specs.Calls.{read}
use Rattle.model.specs.Refusals.{refusal}
use Rattle.model.specs.Model.{proceeds, unless, act}
use Rattle.std.specs.Prelude.{Result, Ok, Err}
use Rattle.formats.specs.declared.refusals.Refusal.{Refusal}
use Rattle.formats.specs.declared.refusals.Refusal.TheVariants.{SessionState}
use Rattle.session.specs.declared.state.Session.{Session}
use Rattle.session.specs.Records.{last_in, record_of, valid}
use Rattle.session.specs.Answers.{read_answer}
use Rattle.session.specs.Promises.{answer_on}
use Rattle.session.specs.inner.Shapes.{Shaped}
use Rattle.session.proofs.LastLaws.{some-last}
use Rattle.session.proofs.CallLaws.{unless-done}

module _ (s : Session) (h : Shaped s) (b : Bool) (e : b ≡ (valid s && s.head.last.present)) where
  pub read_no : not b ≡ true → read_answer (Err SessionState) ≡ answer_on s read
  unfolding read_answer refusal
  read_no f =
      (unless-done s read h (calls.is_some (last_in s.head.last)) [] refl
      (ap (λ (x : Bool). valid s && x) (some-last s.head.last) ∙ sym e ∙ not-true b f)).tells

  pub read-yes : not b ≡ false → read_answer (Ok s.head.last.outcome) ≡ answer_on s read
  unfolding read_answer answer_on act refusal unless proceeds record_of first_no
  read-yes f =
      let y : (valid s && s.head.last.present) ≡ true = sym e ∙ not-false b f in
      let v : valid s ≡ true = and_left (valid s) _ y in
      let p : s.head.last.present ≡ true = and_right (valid s) _ y in
      rw (v, p)
