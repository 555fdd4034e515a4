-- What the exports end in: the promise of a call on a run of eight records.
--     not-run, nobody-exported        a refusal before any screen: 25, or the target's number
--     screen-exported, turn-exported  the one-record call on the bytes of one screen, written where they were
--     beyond, on-screen               the same by the numbers that the code has, of a call that names a screen
-- Starts, Reads and deals, which report values besides: StartReadLaws, DealLaws.
use Prim.Native.Nat.{ℕ, ◌+◌, ◌-◌, ◌*◌, ◌<◌, ◌≤◌}
use mathlib.Core.Path.{◌≡◌, refl, sym, ◌∙◌, ap, subst}
use mathlib.Core.Bool.{true, false}
use mathlib.Core.List.{List, ◌++◌}
use native.Mathlib.Nat.{add-zero}
use native.Mathlib.Omega.{arith}
use lib.ListN.{length, get_or, take, drop, take-append-drop}
use borrow.Author.Tests.{eq-eqb, ne_eqb}
use Rattle.list_laws.proofs.SliceLaws.{run-part, length_part}
use Rattle.formats.specs.Inputs.{Inputs}
use Rattle.model.specs.Calls.{Call, start, cancel, read, advance, Answer, refused, parts, more, finished, outcome}
use Rattle.screens.specs.ScreenCalls.{ScreenCall, start_on, cancel_on, read_on, ScreenAnswer, one, answer_in}
use Rattle.screens.specs.ScreenCalls.{Target, nobody, screen, turn, numbered, target, Another}
use Rattle.screens.proofs.TargetLaws.{number_in, number-out}
use Rattle.screens.proofs.EightLaws.{answer-turn}
use Rattle.records.specs.Layout.{encoded, decoded}
use Rattle.records.proofs.RunLaws.{run_at}
use Rattle.session.specs.Promises.{record_on}
use Rattle.capi_session.specs.SessionExported.{answer_for, answer_number, unless_refused, record_for, CallExported}
use Rattle.capi_screens.specs.RunLayout.{run_length, record_at, with_record, runs}
use Rattle.capi_screens.specs.ScreensExported.{target_in, answer_of, bytes_of, answer_all_for, bytes_for, OwnExported}
use Rattle.capi_screens.specs.ScreensExported.{ScreensCallExported}
use Rattle.capi_screens.proofs.PartLaws.{part-stored, part-kept}

-- ---- an answer's number

-- a number that is not 0 is a refusal's
pub refused-number : (a : Answer) (new old : List ℕ) → (answer_number a ≡ 0 → ⊥) → unless_refused a new old ≡ old
unfolding answer_number unless_refused
refused-number (refused n) new old h = refl
refused-number Answer.accepted new old h = absurd (h refl)
refused-number (parts p) new old h = absurd (h refl)
refused-number more new old h = absurd (h refl)
refused-number finished new old h = absurd (h refl)
refused-number (outcome o) new old h = absurd (h refl)

-- a record that is written where it was
same-record : (b : List ℕ) (i : ℕ) → with_record b i (record_at b i) ≡ b
same-record b i =
    ap (λ (t : List ℕ). take (983 * i) b ++ t) (take-append-drop 983 (drop (983 * i) b)) ∙ take-append-drop (983 * i) b

-- ---- by target

pub not-run-answer : (b : List ℕ) (c : ScreenCall) → (length b ≡ run_length → ⊥)
    → answer_all_for b c ≡ one (refused 25)
unfolding answer_all_for
not-run-answer b c h = rw (ne_eqb (length b) run_length h)

not-run-bytes : (b : List ℕ) (c : ScreenCall) → (length b ≡ run_length → ⊥) → bytes_for b c ≡ b
unfolding bytes_for
not-run-bytes b c h = rw (ne_eqb (length b) run_length h)

pub not-run : (b : List ℕ) (c : ScreenCall) → (length b ≡ run_length → ⊥) → ScreensCallExported b c 25 b
unfolding answer_in answer_number
not-run b c h = record {
  number = sym (ap (λ (a : ScreenAnswer). answer_number (answer_in a)) (not-run-answer b c h));
  left = sym (not-run-bytes b c h);
  unchanged = λ _. refl;
  own = λ l. absurd (h l);
  others = λ l. absurd (h l);
}

module _ (b : List ℕ) (c : ScreenCall) (l : length b ≡ run_length) where
  pub answer-by : (t : Target) → target_in b c ≡ t → answer_all_for b c ≡ answer_of b t
  unfolding answer_all_for
  answer-by t e = rw (eq-eqb (length b) run_length l) (ap (answer_of b) e)

  pub bytes-by : (t : Target) → target_in b c ≡ t → bytes_for b c ≡ bytes_of b t
  unfolding bytes_for
  bytes-by t e = rw (eq-eqb (length b) run_length l) (ap (bytes_of b) e)

  pub nobody-exported : (n : ℕ) → target_in b c ≡ nobody n → ScreensCallExported b c n b
  unfolding answer_of bytes_of answer_in answer_number
  nobody-exported n e = record {
    number = sym (ap (λ (a : ScreenAnswer). answer_number (answer_in a)) (answer-by (nobody n) e));
    left = sym (bytes-by (nobody n) e);
    unchanged = λ _. refl;
    own = λ _. subst (λ (t : Target). OwnExported b b t n) (sym e) tt;
    others = λ _ j h z. refl;
  }

  module _ (i : ℕ) (h : i < 8) (p : List ℕ) (q : length p ≡ 983) where
    own-record : record_at (with_record b i p) i ≡ p
    own-record = part-stored 983 8 b l i h p q

    other-record : (j : ℕ) → j < 8 → (i ≡ j → ⊥) → record_at (with_record b i p) j ≡ record_at b j
    other-record j m z = part-kept 983 8 b l i h p q j m z

    kept : (d : Call) (r : ℕ) → CallExported (record_at b i) d r p → (r ≡ 0 → ⊥) → with_record b i p ≡ b
    unfolding record_for
    kept d r E z =
        ap (λ (t : List ℕ). with_record b i t)
        (E.left ∙ refused-number (answer_for (record_at b i) d) (encoded (record_on (decoded (record_at b i)) d))
        (record_at b i) (λ e. z (E.number ∙ e)))
        ∙ same-record b i

    pub screen-exported : (d : Call) (r : ℕ) → target_in b c ≡ screen i d → CallExported (record_at b i) d r p
        → ScreensCallExported b c r (with_record b i p)
    unfolding answer_of bytes_of answer_in
    screen-exported d r e E = record {
      number = E.number ∙ sym (ap (λ (a : ScreenAnswer). answer_number (answer_in a)) (answer-by (screen i d) e));
      left = ap (λ (t : List ℕ). with_record b i t) E.left ∙ sym (bytes-by (screen i d) e);
      unchanged = kept d r E;
      own = λ _. subst (λ (t : Target). OwnExported b (with_record b i p) t r) (sym e)
          (subst (λ (t : List ℕ). CallExported (record_at b i) d r t) (sym own-record) E);
      others = λ _ j m z. other-record j m (subst (λ (t : Target). Another t j) e z);
    }

    pub turn-exported : (x : Inputs) (r : ℕ) → target_in b c ≡ turn i x → CallExported (record_at b i) (advance x) r p
        → ScreensCallExported b c r (with_record b i p)
    unfolding answer_of bytes_of
    turn-exported x r e E = record {
      number = E.number ∙ sym (ap answer_number
          (ap answer_in (answer-by (turn i x) e) ∙ answer-turn i (answer_for (record_at b i) (advance x))));
      left = ap (λ (t : List ℕ). with_record b i t) E.left ∙ sym (bytes-by (turn i x) e);
      unchanged = kept (advance x) r E;
      own = λ _. subst (λ (t : Target). OwnExported b (with_record b i p) t r) (sym e)
          (subst (λ (t : List ℕ). CallExported (record_at b i) (advance x) r t) (sym own-record) E);
      others = λ _ j m z. other-record j m (subst (λ (t : Target). Another t j) e z);
    }

-- ---- the bytes of a screen, as the code passes them

abbrev width : ℕ → ℕ
width i = 983 * i + 983 - 983 * i

abbrev pub part : List ℕ → ℕ → List ℕ
part b i = take (width i) (drop (983 * i) b)

abbrev pub put : List ℕ → ℕ → List ℕ → List ℕ
put b i p = take (983 * i) b ++ (p ++ drop (width i) (drop (983 * i) b))

pub part-is : (b : List ℕ) (i : ℕ) → part b i ≡ record_at b i
part-is b i = run-part b (983 * i) 983

pub put_is : (b : List ℕ) (i : ℕ) (p : List ℕ) → put b i p ≡ with_record b i p
put_is b i p =
    let e : width i ≡ 983 = omega arith in
    ap (λ (k : ℕ). take (983 * i) b ++ (p ++ drop k (drop (983 * i) b))) e

pub part_length : (b : List ℕ) (i : ℕ) → length b ≡ run_length → i ≤ 7 → length (part b i) ≡ 983
part_length b i l h = ap length (part-is b i) ∙ length_part b (983 * i) 983 (omega arith)

-- ---- the state of a screen, as the code reads it

state-at : (b : List ℕ) (i : ℕ) → get_or (record_at b i) 0 0 ≡ get_or b (983 * i) 0
state-at b i = run_at b (983 * i) 983 0 (omega arith) ∙ ap (λ (j : ℕ). get_or b j 0) (add-zero (983 * i))

pub runs_here : (b : List ℕ) (i : ℕ) → get_or b (983 * i) 0 ≡ 2 → runs b i ≡ true
runs_here b i e = eq-eqb (get_or (record_at b i) 0 0) 2 (state-at b i ∙ e)

pub rests-here : (b : List ℕ) (i : ℕ) → (get_or b (983 * i) 0 ≡ 2 → ⊥) → runs b i ≡ false
rests-here b i z = ne_eqb (get_or (record_at b i) 0 0) 2 (λ e. z (sym (state-at b i) ∙ e))

-- ---- by the numbers that the code has: a call on one screen

-- the call of the screens that is d on screen i
abbrev pub Names : List ℕ → ScreenCall → ℕ → Call → Type 0
Names b c i d = target_in b c ≡ numbered i (screen i d)

pub names-start : (b : List ℕ) (i : ℕ) (x : Inputs) (vs bs : List ℕ) → Names b (start_on i x vs bs) i (start x vs bs)
unfolding target_in target
names-start b i x vs bs = refl

pub names-cancel : (b : List ℕ) (i : ℕ) → Names b (cancel_on i) i cancel
unfolding target_in target
names-cancel b i = refl

pub names-read : (b : List ℕ) (i : ℕ) → Names b (read_on i) i read
unfolding target_in target
names-read b i = refl

module _ (b : List ℕ) (c : ScreenCall) (i : ℕ) (d : Call) (e : Names b c i d) (l : length b ≡ run_length) where
  beyond-target : 7 < i → target_in b c ≡ nobody 25
  beyond-target h = e ∙ number-out i (screen i d) h

  pub beyond : 7 < i → ScreensCallExported b c 25 b
  beyond h = nobody-exported b c l 25 (beyond-target h)

  pub beyond-answer : 7 < i → answer_all_for b c ≡ one (refused 25)
  unfolding answer_of
  beyond-answer h = answer-by b c l (nobody 25) (beyond-target h)

  module _ (h : i ≤ 7) where
    on-target : target_in b c ≡ screen i d
    on-target = e ∙ number_in i (screen i d) (omega arith)

    pub answer-on : answer_in (answer_all_for b c) ≡ answer_for (part b i) d
    unfolding answer_of answer_in
    answer-on =
        ap answer_in (answer-by b c l (screen i d) on-target) ∙ ap (λ (t : List ℕ). answer_for t d) (sym (part-is b i))

    pub on-screen : (r : ℕ) (p : List ℕ) → length p ≡ length (part b i) → CallExported (part b i) d r p
        → ScreensCallExported b c r (put b i p)
    on-screen r p q E =
        subst (λ (t : List ℕ). ScreensCallExported b c r t) (sym (put_is b i p))
        (screen-exported b c l i (omega arith) p (q ∙ part_length b i l h) d r on-target
        (subst (λ (t : List ℕ). CallExported t d r p) (part-is b i) E))
