-- Whether one screen is busy, as the code asks it, and the Load of a record at rest.
--     not_valid, valid-runs, valid-some    whether a screen is busy; busy-part: of a part of the run
--     number-told, load-number     a Load of a record at rest depends on its inputs alone
--     struct-after, bytes_after, one-loaded    where nothing fails
use Prim.Native.Nat.{ℕ, zero, suc, ◌+◌, ◌-◌, ◌<◌}
use mathlib.Core.Path.{◌≡◌, refl, sym, ◌∙◌, ap, subst}
use mathlib.Core.Bool.{Bool, true, false, cond, not, ◌||◌}
use mathlib.Core.List.{List}
use native.Mathlib.Decide.{ℕ_discrete}
use native.Mathlib.Omega.{arith}
use lib.Dec.{eqb}
use lib.ListN.{length, get_or, take, drop}
use borrow.Author.Tests.{ne_eqb, not-true, not-false}
use Rattle.list_laws.proofs.BoolLaws.{and_left, and_right}
use Rattle.list_laws.proofs.SliceLaws.{run-part}
use Rattle.formats.specs.Checks.{Check, first_no, build_checks}
use Rattle.formats.specs.Inputs.{Inputs, sizes_in}
use Rattle.model.specs.Calls.{load, Answer, is_running}
use Rattle.model.specs.Refusals.{refusal}
use Rattle.model.specs.Model.{stage_of, loaded_record, proceeds, unless, act}
use Rattle.screens.proofs.RecordLaws.{load-refusal, load-accepted}
use Rattle.screens.proofs.TargetLaws.{or-no-left, or-no-right}
use Rattle.session.specs.declared.state.Phase.TheVariants.{Empty, Loaded, Running, Answered}
use Rattle.session.specs.declared.state.Session.{Session}
use Rattle.session.specs.Records.{phase_of, record_of, session_of, valid}
use Rattle.session.specs.Promises.{answer_on, record_on, refusal_on}
use Rattle.records.specs.Layout.{phase_at, encoded, decoded, laid_out, valid_bytes}
use Rattle.records.proofs.ByteTests.{laid-length}
use Rattle.capi_session.specs.SessionExported as one-record
use Rattle.capi_session.specs.SessionExported.{answer_for, answer_number, unless_refused, record_for, CallExported}

-- ---- one screen, as the code asks it

abbrev pub is_busy : List ℕ → Bool
is_busy p = not (valid_bytes p) || eqb (get_or p 0 0) 2

module _ (p : List ℕ) (r : Bool) (e : r ≡ valid_bytes p) where
  pub not_valid : not r ≡ true → true ≡ is_busy p
  not_valid h = sym (ap (λ (v : Bool). not v || eqb (get_or p 0 0) 2) (sym e ∙ not-true r h))

  pub valid-runs : not r ≡ false → eqb (get_or p 0 0) 2 ≡ is_busy p
  valid-runs h = sym (ap (λ (v : Bool). not v || eqb (get_or p 0 0) 2) (sym e ∙ not-false r h))

  pub valid-some : not r ≡ false → 0 < length p
  unfolding valid_bytes
  valid-some h =
      let l = laid-length p (and_left (laid_out p) (valid (decoded p)) (sym e ∙ not-false r h)) in omega (arith, l)

pub busy-part : (b : List ℕ) (a : ℕ) (r : Bool) → r ≡ is_busy (take (a + 983 - a) (drop a b))
    → r ≡ is_busy (take 983 (drop a b))
busy-part b a r e = e ∙ ap is_busy (run-part b a 983)

-- ---- the Load of a record at rest

abbrev pub checks_of : Inputs → List Check
checks_of x = build_checks x.plan x.rules (length x.node_table) (length x.state_table)

neither : (a b : Bool) → is_running (phase_of (cond a Empty (cond b Loaded Answered))) ≡ false
unfolding is_running phase_of
neither true b = refl
neither false true = refl
neither false false = refl

state-runs : (n : ℕ) → is_running (phase_of (phase_at n)) ≡ eqb n 2
unfolding is_running phase_of
state-runs n = elim (ℕ_discrete n 2) [
  | yes q ↦ subst (λ (m : ℕ). is_running (phase_of (phase_at m)) ≡ eqb m 2) (sym q) refl
  | no q ↦ (let e : eqb n 2 ≡ false = ne_eqb n 2 q in
      ap (λ (c : Bool). is_running (phase_of (cond (eqb n 0) Empty (cond (eqb n 1) Loaded (cond c Running Answered))))) e
      ∙ neither (eqb n 0) (eqb n 1) ∙ sym e)
]

module _ (p : List ℕ) (x : Inputs) (rest : is_busy p ≡ false) where
  pub valid-is : valid_bytes p ≡ true
  valid-is = not-false (valid_bytes p) (or-no-left (not (valid_bytes p)) (eqb (get_or p 0 0) 2) rest)

  laid-is : laid_out p ≡ true
  unfolding valid_bytes
  laid-is = and_left (laid_out p) (valid (decoded p)) valid-is

  passes : valid (decoded p) ≡ true
  unfolding valid_bytes
  passes = and_right (laid_out p) (valid (decoded p)) valid-is

  idle : is_running (record_of (decoded p)).phase ≡ false
  unfolding record_of decoded
  idle = state-runs (get_or p 0 0) ∙ or-no-right (not (valid_bytes p)) (eqb (get_or p 0 0) 2) rest

  number_is : refusal (stage_of (record_of (decoded p))) (load x) ≡ first_no (checks_of x)
  number_is = load-refusal (record_of (decoded p)) x idle

  pub load-number : one-record.load_number p x ≡ first_no (checks_of x)
  unfolding one-record.load_number refusal_on
  load-number = rw (laid-is, passes) number_is

  answer-is : answer_for p (load x) ≡ (unless (first_no (checks_of x)) (record_of (decoded p)) (load x)).answer
  unfolding answer_for answer_on act
  answer-is = rw (laid-is, passes) (ap (λ (n : ℕ). (unless n (record_of (decoded p)) (load x)).answer) number_is)

  -- the number returned is that of the first failing check
  pub number-told : answer_number (answer_for p (load x)) ≡ first_no (checks_of x)
  unfolding unless proceeds answer_number
  number-told = ap answer_number answer-is ∙ go (first_no (checks_of x))
    where
      go : (n : ℕ) → answer_number (unless n (record_of (decoded p)) (load x)).answer ≡ n
      go zero = refl
      go (suc n) = refl

  module _ (none : first_no (checks_of x) ≡ 0) where
    pub struct-after : record_on (decoded p) (load x) ≡ session_of (loaded_record (sizes_in x))
    unfolding record_on
    struct-after = rw passes (ap session_of (sym (load-accepted (record_of (decoded p)) x idle none).leaves))

    accepted-is : answer_for p (load x) ≡ Answer.accepted
    unfolding answer_for answer_on
    accepted-is = rw (laid-is, passes) (sym (load-accepted (record_of (decoded p)) x idle none).tells)

    pub bytes_after : record_for p (load x) ≡ encoded (session_of (loaded_record (sizes_in x)))
    unfolding record_for unless_refused
    bytes_after = rw accepted-is (ap encoded struct-after)

    pub one-loaded : valid (session_of (loaded_record (sizes_in x))) ≡ true
        → CallExported p (load x) 0 (encoded (session_of (loaded_record (sizes_in x))))
    unfolding answer_number
    one-loaded v = record {
      number = sym (ap answer_number accepted-is);
      left = sym bytes_after;
      stays = λ _. subst (λ (t : Session). valid t ≡ true) (sym struct-after) v;
      properties = λ _. tt;
    }
