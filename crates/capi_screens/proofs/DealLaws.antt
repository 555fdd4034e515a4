-- A deal: whom it serves, and what the output parameters hold, besides the promise of the call.
--     deal-refused    a refusal before any screen
--     deal-beyond, deal-none    25 and 1
--     turn-refused, turn-taken    the one-record advance on the bytes of the screen found, by its number
use Prim.Native.Nat.{ℕ, ◌<◌, ◌≤◌}
use mathlib.Core.Path.{◌≡◌, refl, sym, ◌∙◌, ap, subst}
use mathlib.Core.Bool.{Bool, true, false, cond}
use mathlib.Core.List.{List}
use native.Mathlib.Omega.{arith}
use lib.Dec.{eqb}
use lib.ListN.{length}
use Rattle.formats.specs.Inputs.{Inputs}
use Rattle.model.specs.Calls.{advance, Answer, refused, parts, more, finished, outcome, is_refused}
use Rattle.model.specs.Model.{Record, act}
use Rattle.screens.specs.ScreenCalls.{ScreenCall, deal, ScreenAnswer, one, deals, answer_in, nobody, turn}
use Rattle.screens.specs.ScreenCalls.{one_past, next_running, found, deal_target, target, turn_answer}
use Rattle.screens.specs.Turns.{number_after}
use Rattle.screens.proofs.TargetLaws.{number-out}
use Rattle.screens.proofs.FoundLaws.{found_none, found_turn}
use Rattle.screens.proofs.EightLaws.{answer-turn}
use Rattle.session.specs.Records.{record_of, valid}
use Rattle.session.specs.Promises.{answer_on}
use Rattle.records.specs.Layout.{decoded, laid_out}
use Rattle.capi_session.specs.SessionExported.{answer_for, answer_number, CallExported, finished_of, AdvanceExported}
use Rattle.capi_session.specs.DecodedAnswers.{decoded_advance}
use Rattle.capi_session.proofs.DecodedAnswersLaws.{decoded-advance}
use Rattle.capi_screens.specs.RunLayout.{run_length, runs}
use Rattle.capi_screens.specs.ScreensExported.{target_in, answer_of, answer_all_for, ScreensCallExported}
use Rattle.capi_screens.specs.ScreensExported.{ScreensDealExported}
use Rattle.capi_screens.proofs.ExportedLaws.{nobody-exported, answer-by, turn-exported, part, put, part-is}
use Rattle.capi_screens.proofs.ExportedLaws.{put_is, part_length}

-- ---- the number of an advance's answer: 0 exactly where it is accepted

not-zero : (a : Answer) → (answer_number a ≡ 0 → ⊥) → is_refused a ≡ true
unfolding answer_number
not-zero (refused n) h = refl
not-zero Answer.accepted h = absurd (h refl)
not-zero (parts p) h = absurd (h refl)
not-zero more h = absurd (h refl)
not-zero finished h = absurd (h refl)
not-zero (outcome o) h = absurd (h refl)

-- no refusal has the number 0
abbrev Zero : Answer → Type 0
Zero a = answer_number a ≡ 0 → is_refused a ≡ false

one-zero : Zero (refused 1)
unfolding answer_number
one-zero e = absurd (omega (arith, e))

either-zero : (t : Bool) (a b : Answer) → Zero a → Zero b → Zero (cond t a b)
either-zero true a b f g = f
either-zero false a b f g = g

decoded-zero : (f : ℕ) → is_refused (decoded_advance 0 f) ≡ false
unfolding decoded_advance
decoded-zero f = go (eqb f 0)
  where
    go : (t : Bool) → is_refused (cond t more finished) ≡ false
    go true = refl
    go false = refl

act-zero : (r : Record) (x : Inputs) → Zero (act r (advance x)).answer
act-zero r x e =
    let a = (act r (advance x)).answer in
    ap is_refused (sym (ap (λ (n : ℕ). decoded_advance n (finished_of a 0)) (sym e) ∙ decoded-advance r 0 x))
    ∙ decoded-zero (finished_of a 0)

advance-zero : (b : List ℕ) (x : Inputs) → Zero (answer_for b (advance x))
unfolding answer_for answer_on
advance-zero b x =
    either-zero (laid_out b) (answer_on (decoded b) (advance x)) (refused 1)
    (either-zero (valid (decoded b)) (act (record_of (decoded b)) (advance x)).answer (refused 1)
    (act-zero (record_of (decoded b)) x) one-zero)
    one-zero

-- ---- refused before any screen

pub deal-refused : (b : List ℕ) (c : ScreenCall) (n next fin : ℕ) → ScreensCallExported b c n b
    → answer_all_for b c ≡ one (refused n)
    → ScreensDealExported b c n b next next fin fin
unfolding finished_of answer_in
deal-refused b c n next fin E a = record {
  call = E;
  next_after = sym (ap (number_after next) a);
  finished_after = sym (ap (λ (t : ScreenAnswer). finished_of (answer_in t) fin) a);
}

module _ (b : List ℕ) (k : ℕ) (x : Inputs) (l : length b ≡ run_length) where
  nobody-deal : (n next fin : ℕ) → target_in b (deal k x) ≡ nobody n
      → ScreensDealExported b (deal k x) n b next next fin fin
  unfolding answer_of
  nobody-deal n next fin e =
      deal-refused b (deal k x) n next fin (nobody-exported b (deal k x) l n e) (answer-by b (deal k x) l (nobody n) e)

  pub deal-beyond : (next fin : ℕ) → 7 < k → ScreensDealExported b (deal k x) 25 b next next fin fin
  unfolding target_in target
  deal-beyond next fin h = nobody-deal 25 next fin (number-out k (deal_target (next_running (runs b) k) x) h)

  module _ (h : k ≤ 7) (f : ℕ) (e : f ≡ found (runs b) k) where
    pub deal-none : (next fin : ℕ) → 7 < f → ScreensDealExported b (deal k x) 1 b next next fin fin
    unfolding target_in
    deal-none next fin big = nobody-deal 1 next fin (found_none (runs b) k f x (omega arith) e big)

    -- ---- a turn

    module _ (small : f ≤ 7) (r : ℕ) (p : List ℕ) (q : length p ≡ length (part b f)) (fin₀ fin₁ : ℕ)
        (E : AdvanceExported (part b f) (advance x) r p fin₀ fin₁) where
      to-turn : target_in b (deal k x) ≡ turn f x
      unfolding target_in
      to-turn = found_turn (runs b) k f x (omega arith) e small

      turn-call : ScreensCallExported b (deal k x) r (put b f p)
      turn-call =
          subst (λ (t : List ℕ). ScreensCallExported b (deal k x) r t) (sym (put_is b f p))
          (turn-exported b (deal k x) l f (omega arith) p (q ∙ part_length b f l small) x r to-turn
          (subst (λ (t : List ℕ). CallExported t (advance x) r p) (part-is b f) E.call))

      turn-answer : answer_all_for b (deal k x) ≡ turn_answer f (answer_for (part b f) (advance x))
      unfolding answer_of
      turn-answer =
          answer-by b (deal k x) l (turn f x) to-turn
          ∙ ap (λ (t : List ℕ). turn_answer f (answer_for t (advance x))) (sym (part-is b f))

      turn-finished : fin₁ ≡ finished_of (answer_in (answer_all_for b (deal k x))) fin₀
      turn-finished =
          E.finished_after
          ∙ sym (ap (λ (a : Answer). finished_of a fin₀)
          (ap answer_in turn-answer ∙ answer-turn f (answer_for (part b f) (advance x))))

      number-after : (next : ℕ) (t : Bool) → is_refused (answer_for (part b f) (advance x)) ≡ t
          → cond t next (one_past f) ≡ number_after next (answer_all_for b (deal k x))
      unfolding turn_answer
      number-after next true z =
          sym (ap (number_after next) (turn-answer ∙ ap (λ (t : Bool). cond t (one (answer_for (part b f) (advance x)))
          (deals (one_past f) (answer_for (part b f) (advance x)))) z))
      number-after next false z =
          sym (ap (number_after next) (turn-answer ∙ ap (λ (t : Bool). cond t (one (answer_for (part b f) (advance x)))
          (deals (one_past f) (answer_for (part b f) (advance x)))) z))

      pub turn-refused : (next : ℕ) → (r ≡ 0 → ⊥)
          → ScreensDealExported b (deal k x) r (put b f p) next next fin₀ fin₁
      turn-refused next z = record {
        call = turn-call;
        next_after = number-after next true
            (not-zero (answer_for (part b f) (advance x)) (λ o. z (E.call.number ∙ o)));
        finished_after = turn-finished;
      }

      pub turn-taken : (next next' : ℕ) → r ≡ 0 → next' ≡ one_past f
          → ScreensDealExported b (deal k x) 0 (put b f p) next next' fin₀ fin₁
      turn-taken next next' z o = record {
        call = subst (λ (n : ℕ). ScreensCallExported b (deal k x) n (put b f p)) z turn-call;
        next_after = o ∙ number-after next false (advance-zero (part b f) x (sym E.call.number ∙ z));
        finished_after = turn-finished;
      }
