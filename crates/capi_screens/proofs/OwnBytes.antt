-- What is answered of a screen is decided by its own bytes, on every run of 8 x 983 bytes, even where they are no
-- records.
--     start-alone, cancel-alone, read-alone    Start, Cancel and Read depend only on the bytes of the named record
--     deal-alone                               a deal depends only on the eight states and the record that it serves
use Prim.Native.Nat.{ℕ}
use mathlib.Core.Path.{◌≡◌, refl, sym, ◌∙◌, ap}
use mathlib.Core.Bool.{Bool, true, false, cond}
use mathlib.Core.List.{List}
use mathlib.Core.Option.{Option, none, some}
use lib.Dec.{ltb}
use lib.ListN.{length}
use Rattle.formats.specs.Inputs.{Inputs}
use Rattle.model.specs.Calls.{Call, start, cancel, read, advance}
use Rattle.screens.specs.ScreenCalls.{ScreenCall, start_on, cancel_on, read_on, deal, one, next_running, Target, nobody}
use Rattle.screens.specs.ScreenCalls.{screen, deal_target, numbered, target, turn_answer}
use Rattle.screens.proofs.TargetLaws.{SameRunning, target-same}
use Rattle.capi_session.specs.SessionExported.{answer_for}
use Rattle.capi_screens.specs.RunLayout.{run_length, record_at, runs}
use Rattle.capi_screens.specs.ScreensExported.{target_in, answer_of, answer_all_for}
use Rattle.capi_screens.proofs.ExportedLaws.{answer-by, Names, names-start, names-cancel, names-read}

module _ (b c : List ℕ) (lb : length b ≡ run_length) (lc : length c ≡ run_length) where
  by-target : (d : ScreenCall) (t : Target) → target_in b d ≡ t → target_in c d ≡ t → answer_of b t ≡ answer_of c t
      → answer_all_for b d ≡ answer_all_for c d
  by-target d t e f g = answer-by b d lb t e ∙ g ∙ sym (answer-by c d lc t f)

  named-alone : (d : ScreenCall) (i : ℕ) (own : Call) → Names b d i own → Names c d i own → record_at b i ≡ record_at c i
      → answer_all_for b d ≡ answer_all_for c d
  unfolding numbered answer_of
  named-alone d i own e f same = by-target d (numbered i (screen i own)) e f (go (ltb i 8))
    where
      go : (t : Bool) → answer_of b (cond t (screen i own) (nobody 25)) ≡ answer_of c (cond t (screen i own) (nobody 25))
      go true = ap (λ (p : List ℕ). one (answer_for p own)) same
      go false = refl

  module _ (i : ℕ) (same : record_at b i ≡ record_at c i) where
    pub start-alone : (x : Inputs) (vs bs : List ℕ)
        → answer_all_for b (start_on i x vs bs) ≡ answer_all_for c (start_on i x vs bs)
    start-alone x vs bs =
        named-alone (start_on i x vs bs) i (start x vs bs) (names-start b i x vs bs) (names-start c i x vs bs) same

    pub cancel-alone : answer_all_for b (cancel_on i) ≡ answer_all_for c (cancel_on i)
    cancel-alone = named-alone (cancel_on i) i cancel (names-cancel b i) (names-cancel c i) same

    pub read-alone : answer_all_for b (read_on i) ≡ answer_all_for c (read_on i)
    read-alone = named-alone (read_on i) i read (names-read b i) (names-read c i) same

  pub deal-alone : (k : ℕ) (x : Inputs) → SameRunning (runs b) (runs c)
      → ((i : ℕ) → next_running (runs b) k ≡ some i → record_at b i ≡ record_at c i)
      → answer_all_for b (deal k x) ≡ answer_all_for c (deal k x)
  unfolding target_in target numbered deal_target answer_of
  deal-alone k x states served =
      by-target (deal k x) (target (runs b) (deal k x)) refl (sym (target-same (runs b) (runs c) states (deal k x)))
      (go (ltb k 8) (next_running (runs b) k) refl)
    where
      go : (t : Bool) (o : Option ℕ) → next_running (runs b) k ≡ o
          → answer_of b (cond t (deal_target o x) (nobody 25)) ≡ answer_of c (cond t (deal_target o x) (nobody 25))
      go true none q = refl
      go true (some i) q = ap (λ (p : List ℕ). turn_answer i (answer_for p (advance x))) (served i q)
      go false o q = refl
