-- Demand 1, call by call, in the three forms of the calls.
--     as-by-value         a call in place is the call by value on the record at entry
--     refused-in-order, refused-in-place, refused-on-bytes    each of the five calls refuses by its first failing
--                         check, and a refusal alters nothing
--     start-refused-18, start-18-in-place, start-18-on-bytes   Start's 18, exactly where its other checks pass and the
--                         inputs are not sound
use Prim.Native.Nat.{ℕ, zero, suc}
use mathlib.Core.Path.{◌≡◌, refl, sym, ap, ◌∙◌}
use mathlib.Core.Bool.{Bool, true, false, cond}
use mathlib.Core.List.{List, [], ◌∷◌}
use mathlib.Core.Option.{Option, none, some}
use native.Mathlib.Omega.{arith}
use lib.Dec.{eqb}
use lib.ListN.{length, get_or}
use Rattle.list_laws.proofs.BoolLaws.{true-false, and_left, and_right}
use Rattle.formats.specs.Checks.{check, first_no}
use Rattle.formats.specs.Inputs.{Inputs}
use Rattle.tables.specs.declared.answers.Reached.{Reached}
use Rattle.model.specs.Calls.{Call, load, start, advance, cancel, read, Answer, refused, more, finished, Outcome}
use Rattle.model.specs.Calls.{is_refused, is_some, Phase}
use Rattle.model.specs.Refusals.{refusal}
use Rattle.model.proofs.SoundLaws.{start-18}
use Rattle.model.specs.Model.{Record, Acted, acted, stage_of, marks_by, stepped, advance_with, last_answer, proceeds}
use Rattle.model.specs.Model.{unless, act}
use Rattle.session.specs.declared.state.Session.{Session}
use Rattle.session.specs.Records.{record_of, valid}
use Rattle.session.specs.Promises.{answer_on, refusal_on, CallDone}
use Rattle.session.specs.CallsByValue.{CallByValue, loads, starts, advances, cancels, reads}
use Rattle.session.specs.in_place.CallsInPlace as in_place
use Rattle.records.specs.Layout.{decoded, laid_out, valid_bytes}
use Rattle.capi_session.specs.SessionExported.{answer_for}
use Rattle.capi_session.specs.DecodedAnswers.{Exports}
use Rattle.claims.specs.Refusals.{RefusedInOrder, RefusedOnBytes, Start18}
use Rattle.claims.proofs.laws.ByteAnswers.{bytes-answer, bytes-refused}

-- ---- a call of the model whose checks pass is refused with 18 alone, and is an advance

abbrev Only18 : Acted → Type 0
Only18 x = is_refused x.answer ≡ true → x.answer ≡ refused 18

on-choice : (b : Bool) (x y : Acted) → Only18 x → Only18 y → Only18 (cond b x y)
on-choice true x y f g = f
on-choice false x y f g = g

on-advance : (r : Record) (x : Inputs) (o : Option Reached) → Only18 (advance_with r x o)
unfolding advance_with
on-advance r x none e = refl
on-advance r x (some y) e =
    on-choice (eqb (suc (length r.states)) (length r.roots))
    (acted finished (stepped r Phase.answered y (eqb (get_or (marks_by r.sizes x) y.state 0) 1)))
    (acted more (stepped r Phase.running y false))
    (λ f. absurd (true-false (sym f))) (λ f. absurd (true-false (sym f))) e

-- call c is an advance, and its answer a is 18
abbrev Advance18 : Call → Answer → Type 0
Advance18 c a = (x : Inputs) × (c ≡ advance x) × (a ≡ refused 18)

-- a Read whose check passes has an answer
on_read : (o : Option Outcome) → first_no (check 1 (is_some o) ∷ []) ≡ 0 → is_refused (last_answer o) ≡ true → ⊥
unfolding first_no
on_read none h e = omega arith
on_read (some o) h e = true-false (sym e)

on_call : (r : Record) (c : Call) → refusal (stage_of r) c ≡ 0 → is_refused (proceeds r c).answer ≡ true
    → Advance18 c (proceeds r c).answer
unfolding refusal proceeds
on_call r (load x) h e = absurd (true-false (sym e))
on_call r (start x vs bs) h e = absurd (true-false (sym e))
on_call r (advance x) h e = (x, refl, on-advance r x _ e)
on_call r cancel h e = absurd (true-false (sym e))
on_call r read h e = absurd (on_read r.last h e)

-- ---- l: whether the bytes have the record's layout; v: whether the struct is valid; m: the first failing check

abbrev answered : Bool → Bool → Answer → Answer
answered l v a = cond l (cond v a (refused 1)) (refused 1)

module _ (r : Record) (c : Call) where
  numbered : (l v : Bool) (m n : ℕ) → cond l (cond v m 1) 1 ≡ suc n
      → answered l v (unless m r c).answer ≡ refused (suc n)
  unfolding unless
  numbered true true zero n e = absurd (omega arith)
  numbered true true (suc m) n e = ap refused e
  numbered true false m n e = ap refused e
  numbered false v m n e = ap refused e

  eighteen : (l v : Bool) (m : ℕ) → refusal (stage_of r) c ≡ m → cond l (cond v m 1) 1 ≡ 0
      → is_refused (answered l v (unless m r c).answer) ≡ true → Advance18 c (answered l v (unless m r c).answer)
  unfolding unless
  eighteen true true zero i e f = on_call r c i f
  eighteen true true (suc m) i e f = absurd (omega arith)
  eighteen true false m i e f = absurd (omega arith)
  eighteen false v m i e f = absurd (omega arith)

-- ---- by value

module _ (s : Session) (c : Call) (a : Answer) (s' : Session) where
  by_answer : a ≡ answer_on s c → ((n : ℕ) → a ≡ refused n → s' ≡ s) → RefusedInOrder s c a s'
  unfolding answer_on refusal_on act
  by_answer e u = record {
    by_number = λ n h. e ∙ numbered (record_of s) c true (valid s) (refusal (stage_of (record_of s)) c) n h;
    unaltered = u;
    else_accepted = λ h f.
        let i = eighteen (record_of s) c true (valid s) (refusal (stage_of (record_of s)) c) refl h
        (sym (ap is_refused e) ∙ f) in
        (i.0, i.1, e ∙ i.2);
  }

  by-done : CallDone s c a s' → RefusedInOrder s c a s'
  by-done d = by_answer d.tells d.unchanged

pub refused-in-order : (s s' : Session) (c : Call) (a : Answer) → CallByValue s c a s' → RefusedInOrder s c a s'
refused-in-order s s' c a (loads o x y d) = by-done s c a s' d.call
refused-in-order s s' c a (starts o d) = by-done s c a s' d
refused-in-order s s' c a (advances o d) = by-done s c a s' d
refused-in-order s s' c a (cancels o d) = by-done s c a s' d
refused-in-order s s' c a (reads o d) = by_answer s c a s' d (λ n e. refl)

-- ---- in place

-- session/proofs/in_place/InPlaceTheorem, step-by-value, which is not pub
pub as-by-value : (s s' : Session) (c : Call) (a : Answer) → in_place.CallInPlace s c a s' → CallByValue s c a s'
as-by-value s s' c a (in_place.loads r x y d) = loads (record { answer = r; session = s' }) x y d
as-by-value s s' c a (in_place.starts r d) = starts (record { answer = r; session = s' }) d
as-by-value s s' c a (in_place.advances r d) = advances (record { answer = r; session = s' }) d
as-by-value s s' c a (in_place.cancels r d) = cancels (record { answer = r; session = s' }) d
as-by-value s s' c a (in_place.reads r d) = reads r d

pub refused-in-place : (s s' : Session) (c : Call) (a : Answer) → in_place.CallInPlace s c a s'
    → RefusedInOrder s c a s'
refused-in-place s s' c a d = refused-in-order s s' c a (as-by-value s s' c a d)

-- ---- on record bytes

pub refused-on-bytes : (b b' : List ℕ) (c : Call) (a : Answer) → Exports b c a b' → RefusedOnBytes b c a b'
unfolding answer_for answer_on refusal_on act
refused-on-bytes b b' c a e =
    let t = bytes-answer b b' c a e in
    let r : Record = record_of (decoded b) in
    record {
      by_number = λ n h. t ∙ numbered r c (laid_out b) (valid (decoded b)) (refusal (stage_of r) c) n h;
      unaltered = λ n h. bytes-refused b b' c a e n (sym t ∙ h);
      else_accepted = λ h f.
          let i = eighteen r c (laid_out b) (valid (decoded b)) (refusal (stage_of r) c) refl h
          (sym (ap is_refused t) ∙ f) in
          (i.0, i.1, t ∙ i.2);
    }

-- ---- Start's 18

by-value-answer : (s s' : Session) (c : Call) (a : Answer) → CallByValue s c a s' → a ≡ answer_on s c
by-value-answer s s' c a (loads o x y d) = d.call.tells
by-value-answer s s' c a (starts o d) = d.tells
by-value-answer s s' c a (advances o d) = d.tells
by-value-answer s s' c a (cancels o d) = d.tells
by-value-answer s s' c a (reads o d) = d

by-model : (r : Record) (x : Inputs) (vs bs : List ℕ) (a : Answer) → a ≡ (act r (start x vs bs)).answer
    → Start18 r x vs bs a
by-model r x vs bs a e = let E = start-18 r x vs bs in (λ f. E.0 (sym e ∙ f), λ h. e ∙ E.1 h)

pub start-refused-18 : (s s' : Session) (x : Inputs) (vs bs : List ℕ) (a : Answer) → CallByValue s (start x vs bs) a s'
    → valid s ≡ true → Start18 (record_of s) x vs bs a
unfolding answer_on
start-refused-18 s s' x vs bs a c v =
    by-model (record_of s) x vs bs a
    (by-value-answer s s' (start x vs bs) a c
    ∙ ap (λ (b : Bool). cond b (act (record_of s) (start x vs bs)).answer (refused 1)) v)

pub start-18-in-place : (s s' : Session) (x : Inputs) (vs bs : List ℕ) (a : Answer)
    → in_place.CallInPlace s (start x vs bs) a s' → valid s ≡ true → Start18 (record_of s) x vs bs a
start-18-in-place s s' x vs bs a c = start-refused-18 s s' x vs bs a (as-by-value s s' (start x vs bs) a c)

pub start-18-on-bytes : (b b' : List ℕ) (x : Inputs) (vs bs : List ℕ) (a : Answer) → Exports b (start x vs bs) a b'
    → valid_bytes b ≡ true → Start18 (record_of (decoded b)) x vs bs a
unfolding answer_for answer_on valid_bytes
start-18-on-bytes b b' x vs bs a e v =
    let y : Answer = (act (record_of (decoded b)) (start x vs bs)).answer in
    by-model (record_of (decoded b)) x vs bs a
    (bytes-answer b b' (start x vs bs) a e
    ∙ ap (λ (l : Bool). answered l (valid (decoded b)) y) (and_left (laid_out b) (valid (decoded b)) v)
    ∙ ap (λ (l : Bool). cond l y (refused 1)) (and_right (laid_out b) (valid (decoded b)) v))
