-- Start and Read of one screen: what the output parameters hold, besides the promise of the call.
--     start-refused, start-on    a refusal before any screen, and the one-record Start on the bytes of the screen
--     read-refused, read-on      the same of Read
use Prim.Native.Nat.{ℕ, ◌≤◌}
use mathlib.Core.Path.{◌≡◌, sym, ◌∙◌, ap}
use mathlib.Core.List.{List}
use lib.ListN.{length}
use Rattle.model.specs.Calls.{Call, read, Answer, refused}
use Rattle.screens.specs.ScreenCalls.{ScreenCall, read_on, ScreenAnswer, one, answer_in}
use Rattle.capi_session.specs.SessionExported.{answer_number, parts_of, StartExported, Places, answered_places}
use Rattle.capi_session.specs.SessionExported.{ReadExported}
use Rattle.capi_screens.specs.RunLayout.{run_length}
use Rattle.capi_screens.specs.ScreensExported.{answer_all_for, ScreensCallExported, ScreensStartExported}
use Rattle.capi_screens.specs.ScreensExported.{ScreensReadExported}
use Rattle.capi_screens.proofs.ExportedLaws.{part, put, Names, names-read, answer-on, on-screen}

pub start-refused : (b : List ℕ) (c : ScreenCall) (n p : ℕ) → ScreensCallExported b c n b
    → answer_all_for b c ≡ one (refused n)
    → ScreensStartExported b c n b p p
unfolding parts_of answer_in
start-refused b c n p E a = record { call = E; parts_after = sym (ap (λ (t : ScreenAnswer). parts_of (answer_in t) p) a) }

pub start-on : (b : List ℕ) (c : ScreenCall) (i : ℕ) (d : Call) → Names b c i d → length b ≡ run_length → i ≤ 7
    → (r : ℕ) (q : List ℕ) (p₀ p₁ : ℕ) → length q ≡ length (part b i) → StartExported (part b i) d r q p₀ p₁
    → ScreensStartExported b c r (put b i q) p₀ p₁
start-on b c i d e l h r q p₀ p₁ m E = record {
  call = on-screen b c i d e l h r q m E.call;
  parts_after = E.parts_after ∙ sym (ap (λ (a : Answer). parts_of a p₀) (answer-on b c i d e l h));
}

pub read-refused : (b : List ℕ) (i n : ℕ) (old : Places) → answer_all_for b (read_on i) ≡ one (refused n)
    → ScreensReadExported b i n old old
unfolding answered_places answer_in answer_number
read-refused b i n old a = record {
  number = sym (ap (λ (t : ScreenAnswer). answer_number (answer_in t)) a);
  values_are = sym (ap (λ (t : ScreenAnswer). answered_places (answer_in t) old) a);
}

pub read-on : (b : List ℕ) (i : ℕ) → length b ≡ run_length → i ≤ 7 → (r : ℕ) (old new : Places)
    → ReadExported (part b i) r old new
    → ScreensReadExported b i r old new
read-on b i l h r old new E =
    let a = answer-on b (read_on i) i read (names-read b i) l h in record {
      number = E.number ∙ sym (ap answer_number a);
      values_are = E.values_are ∙ sym (ap (λ (t : Answer). answered_places t old) a);
    }
