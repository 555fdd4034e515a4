-- What a caller decodes of an exported session call, on any bytes.
--     bytes-answer        the decoded answer is the one that the contract names
--     bytes-refused       where that is a refusal the bytes are as they were
--     refused-only        a number other than 0 is a refusal's
--     start-kept, advance-kept, read_kept   and then each output parameter is unchanged
use Prim.Native.Nat.{ℕ}
use mathlib.Core.Path.{◌≡◌, refl, ap, ap₂, ◌∙◌}
use mathlib.Core.Bool.{Bool, true, false, cond}
use mathlib.Core.List.{List}
use Rattle.model.specs.Calls.{Call, load, start, advance, cancel, read, Answer, refused, parts, more, finished, outcome}
use Rattle.model.specs.Model.{act}
use Rattle.session.specs.Records.{record_of, valid}
use Rattle.session.specs.Promises.{answer_on, record_on}
use Rattle.records.specs.Layout.{encoded, decoded, laid_out}
use Rattle.capi_session.specs.SessionExported.{answer_for, answer_number, unless_refused, record_for, parts_of, finished_of}
use Rattle.capi_session.specs.SessionExported.{Places, answered_places, StartExported, AdvanceExported, ReadExported}
use Rattle.capi_session.specs.DecodedAnswers.{decoded_done, decoded_start, decoded_advance, decoded_read, Exports}
use Rattle.capi_session.specs.DecodedAnswers.{loads, starts, advances, cancels, reads}
use Rattle.capi_session.proofs.DecodedAnswersLaws.{decoded-load, decoded-start, decoded-advance, decoded-cancel}
use Rattle.capi_session.proofs.DecodedAnswersLaws.{decoded-read}

-- ---- what is decoded is the answer

-- f decodes the model's answer, and a refusal with 1, as they are
module _ (b : List ℕ) (c : Call) (f : Answer → Answer)
    (same : f (act (record_of (decoded b)) c).answer ≡ (act (record_of (decoded b)) c).answer)
    (one : f (refused 1) ≡ refused 1) where
  whole : f (answer_for b c) ≡ answer_for b c
  unfolding answer_for answer_on
  whole = go (laid_out b) (valid (decoded b))
    where
      go : (l v : Bool) → f (cond l (cond v (act (record_of (decoded b)) c).answer (refused 1)) (refused 1))
          ≡ cond l (cond v (act (record_of (decoded b)) c).answer (refused 1)) (refused 1)
      go true true = same
      go true false = one
      go false v = one

pub bytes-answer : (b b' : List ℕ) (c : Call) (a : Answer) → Exports b c a b' → a ≡ answer_for b c
unfolding decoded_done decoded_start decoded_advance decoded_read answer_number
bytes-answer b b' c a (loads {x} r node_table state_table e) =
    ap decoded_done e.call.number
    ∙ whole b (load x) (λ (y : Answer). decoded_done (answer_number y)) (decoded-load (record_of (decoded b)) x) refl
bytes-answer b b' c a (starts {x} {vs} {bs} r p₀ p₁ e) =
    ap₂ decoded_start e.call.number e.parts_after
    ∙ whole b (start x vs bs) (λ (y : Answer). decoded_start (answer_number y) (parts_of y p₀))
    (decoded-start (record_of (decoded b)) p₀ x vs bs) refl
bytes-answer b b' c a (advances {x} r f₀ f₁ e) =
    ap₂ decoded_advance e.call.number e.finished_after
    ∙ whole b (advance x) (λ (y : Answer). decoded_advance (answer_number y) (finished_of y f₀))
    (decoded-advance (record_of (decoded b)) f₀ x) refl
bytes-answer b b' c a (cancels r e) =
    ap decoded_done e.number
    ∙ whole b cancel (λ (y : Answer). decoded_done (answer_number y)) (decoded-cancel (record_of (decoded b))) refl
bytes-answer b b' c a (reads r before after e) =
    ap₂ decoded_read e.number e.values_are
    ∙ whole b read (λ (y : Answer). decoded_read (answer_number y) (answered_places y before))
    (decoded-read (record_of (decoded b)) before) refl

-- ---- a refusal

as_before : (b : List ℕ) (c : Call) (n : ℕ) → answer_for b c ≡ refused n → record_for b c ≡ b
unfolding record_for unless_refused
as_before b c n e = ap (λ (y : Answer). unless_refused y (encoded (record_on (decoded b) c)) b) e

pub bytes-refused : (b b' : List ℕ) (c : Call) (a : Answer) → Exports b c a b' → (n : ℕ) → answer_for b c ≡ refused n
    → b' ≡ b
bytes-refused b b' c a (loads r node_table state_table e) n q = e.call.left ∙ as_before b c n q
bytes-refused b b' c a (starts r p₀ p₁ e) n q = e.call.left ∙ as_before b c n q
bytes-refused b b' c a (advances r f₀ f₁ e) n q = e.call.left ∙ as_before b c n q
bytes-refused b b' c a (cancels r e) n q = e.left ∙ as_before b c n q
bytes-refused b b' c a (reads r before after e) n q = refl

pub refused-only : (a : Answer) → (answer_number a ≡ 0 → ⊥) → (n : ℕ) × (a ≡ refused n)
unfolding answer_number
refused-only (refused n) h = (n, refl)
refused-only Answer.accepted h = absurd (h refl)
refused-only (parts p) h = absurd (h refl)
refused-only more h = absurd (h refl)
refused-only finished h = absurd (h refl)
refused-only (outcome o) h = absurd (h refl)

-- ---- the output parameters of a refused call

pub start-kept : (b b' : List ℕ) (c : Call) (r parts₀ parts₁ : ℕ) → StartExported b c r b' parts₀ parts₁
    → (r ≡ 0 → ⊥) → parts₁ ≡ parts₀
unfolding parts_of
start-kept b b' c r p₀ p₁ e h =
    let k = refused-only (answer_for b c) (λ z. h (e.call.number ∙ z)) in
    e.parts_after ∙ ap (λ (y : Answer). parts_of y p₀) k.1

pub advance-kept : (b b' : List ℕ) (c : Call) (r finished₀ finished₁ : ℕ)
    → AdvanceExported b c r b' finished₀ finished₁ → (r ≡ 0 → ⊥) → finished₁ ≡ finished₀
unfolding finished_of
advance-kept b b' c r f₀ f₁ e h =
    let k = refused-only (answer_for b c) (λ z. h (e.call.number ∙ z)) in
    e.finished_after ∙ ap (λ (y : Answer). finished_of y f₀) k.1

pub read_kept : (b : List ℕ) (r : ℕ) (before after : Places) → ReadExported b r before after → (r ≡ 0 → ⊥)
    → after ≡ before
unfolding answered_places
read_kept b r before after e h =
    let k = refused-only (answer_for b read) (λ z. h (e.number ∙ z)) in
    e.values_are ∙ ap (λ (y : Answer). answered_places y before) k.1
