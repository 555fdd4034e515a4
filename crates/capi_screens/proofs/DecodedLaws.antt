-- What is decoded of a call of the screens is its answer: number and values determine it.
--     decoded-load-all, decoded-start-on, decoded-cancel-on, decoded-read-on, decoded-deal   of the model's calls
use Prim.Native.Nat.{ℕ, zero, suc}
use mathlib.Core.Path.{◌≡◌, refl, sym, ap, subst}
use mathlib.Core.Bool.{Bool, true, false, cond}
use mathlib.Core.List.{List}
use mathlib.Core.Option.{Option, none, some}
use lib.Dec.{ltb, eqb}
use lib.ListN.{length}
use Rattle.list_laws.proofs.BoolLaws.{true-false}
use Rattle.formats.specs.Checks.{first_no}
use Rattle.formats.specs.Inputs.{Inputs}
use Rattle.model.specs.Calls.{Call, start, cancel, read, advance, Answer, refused, more, finished, is_refused}
use Rattle.model.specs.Model.{Record, act}
use Rattle.screens.specs.ScreenCalls.{ScreenCall, load_all, start_on, cancel_on, read_on, deal, ScreenAnswer, one, deals}
use Rattle.screens.specs.ScreenCalls.{answer_in, one_past, next_running, nobody, screen, load_all_checks, load_target}
use Rattle.screens.specs.ScreenCalls.{deal_target, numbered, target, turn_answer}
use Rattle.screens.specs.EightRecords.{at, runs, ActedAll, act_on, act_all}
use Rattle.screens.specs.Turns.{number_after}
use Rattle.screens.proofs.EightLaws.{on-target}
use Rattle.capi_session.specs.SessionExported.{answer_number, parts_of, finished_of, Places, answered_places}
use Rattle.capi_session.specs.DecodedAnswers.{decoded_done, decoded_start, decoded_advance, decoded_read}
use Rattle.capi_session.proofs.DecodedAnswersLaws.{decoded-start, decoded-advance, decoded-cancel, decoded-read}
use Rattle.capi_screens.specs.DecodedScreens.{decoded_load, decoded_deal}

abbrev LoadDecoded : ℕ → ScreenAnswer → Type 0
LoadDecoded k a = decoded_load (answer_number (answer_in a)) (number_after k a) ≡ a

abbrev StartDecoded : ℕ → ScreenAnswer → Type 0
StartDecoded p a = one (decoded_start (answer_number (answer_in a)) (parts_of (answer_in a) p)) ≡ a

abbrev CancelDecoded : ScreenAnswer → Type 0
CancelDecoded a = one (decoded_done (answer_number (answer_in a))) ≡ a

abbrev ReadDecoded : Places → ScreenAnswer → Type 0
ReadDecoded q a = one (decoded_read (answer_number (answer_in a)) (answered_places (answer_in a) q)) ≡ a

abbrev DealDecoded : ℕ → ℕ → ScreenAnswer → Type 0
DealDecoded k f a = decoded_deal (answer_number (answer_in a)) (number_after k a) (finished_of (answer_in a) f) ≡ a

-- ---- a turn

turn-decoded : (k f i : ℕ) (a : Answer) → decoded_advance (answer_number a) (finished_of a f) ≡ a
    → DealDecoded k f (turn_answer i a)
unfolding decoded_deal decoded_advance answer_number finished_of answer_in turn_answer
turn-decoded k f i (refused zero) e = absurd (go (eqb f 0) e)
  where
    go : (b : Bool) → cond b more finished ≡ refused 0 → ⊥
    go true q = true-false (sym (ap is_refused q))
    go false q = true-false (sym (ap is_refused q))
turn-decoded k f i (refused (suc n)) e = refl
turn-decoded k f i Answer.accepted e = ap (deals (one_past i)) e
turn-decoded k f i (Answer.parts p) e = ap (deals (one_past i)) e
turn-decoded k f i more e = ap (deals (one_past i)) e
turn-decoded k f i finished e = ap (deals (one_past i)) e
turn-decoded k f i (Answer.outcome o) e = ap (deals (one_past i)) e

-- ---- each call

module _ (rs : List Record) (long : length rs ≡ 8) where
  -- by whose call it is
  by-target : (P : ScreenAnswer → Type 0) (c : ScreenCall) → P (act_on rs (target (runs rs) c)).answer
      → P (act_all rs c).answer
  by-target P c p = subst P (sym (ap (λ (k : ActedAll). k.answer) (on-target rs c long))) p

  -- a call that names a screen
  by-screen : (P : ScreenAnswer → Type 0) (i : ℕ) (d : Call) → P (one (refused 25)) → P (one (act (at rs i) d).answer)
      → P (act_on rs (numbered i (screen i d))).answer
  unfolding act_on numbered
  by-screen P i d none-such own = go (ltb i 8)
    where
      go : (b : Bool) → P (act_on rs (cond b (screen i d) (nobody 25))).answer
      go true = own
      go false = none-such

  pub decoded-load-all : (k : ℕ) (x : Inputs) → LoadDecoded k (act_all rs (load_all x)).answer
  unfolding target load_target act_on decoded_load answer_number answer_in
  decoded-load-all k x = by-target (LoadDecoded k) (load_all x) (go (first_no (load_all_checks (runs rs) x)))
    where
      go : (n : ℕ) → LoadDecoded k (act_on rs (load_target n x)).answer
      go zero = refl
      go (suc n) = refl

  pub decoded-start-on : (p i : ℕ) (x : Inputs) (vs bs : List ℕ)
      → StartDecoded p (act_all rs (start_on i x vs bs)).answer
  unfolding target answer_in answer_number decoded_start parts_of
  decoded-start-on p i x vs bs =
      by-target (StartDecoded p) (start_on i x vs bs)
      (by-screen (StartDecoded p) i (start x vs bs) refl (ap one (decoded-start (at rs i) p x vs bs)))

  pub decoded-cancel-on : (i : ℕ) → CancelDecoded (act_all rs (cancel_on i)).answer
  unfolding target answer_in answer_number decoded_done
  decoded-cancel-on i =
      by-target CancelDecoded (cancel_on i) (by-screen CancelDecoded i cancel refl (ap one (decoded-cancel (at rs i))))

  pub decoded-read-on : (q : Places) (i : ℕ) → ReadDecoded q (act_all rs (read_on i)).answer
  unfolding target answer_in answer_number decoded_read
  decoded-read-on q i =
      by-target (ReadDecoded q) (read_on i)
      (by-screen (ReadDecoded q) i read refl (ap one (decoded-read (at rs i) q)))

  pub decoded-deal : (k f j : ℕ) (x : Inputs) → DealDecoded k f (act_all rs (deal j x)).answer
  unfolding target numbered deal_target act_on decoded_deal answer_number answer_in
  decoded-deal k f j x = by-target (DealDecoded k f) (deal j x) (go (ltb j 8) (next_running (runs rs) j))
    where
      go : (b : Bool) (o : Option ℕ) → DealDecoded k f (act_on rs (cond b (deal_target o x) (nobody 25))).answer
      go true none = refl
      go true (some i) =
          turn-decoded k f i (act (at rs i) (advance x)).answer (decoded-advance (at rs i) f x)
      go false o = refl
