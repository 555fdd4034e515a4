-- Refusals of the eight screens' calls: on any run of structs, and of the exported calls on any bytes.
--     structs-another-length, structs-above-7, another-length, number-above-7    25 before everything else, and the run
--                                       is as it was
--     start-kept, read_kept, finished-kept   a refused call leaves each output parameter as it was
--     deal-next-kept, load-next-kept    and so the screen to try first
use Prim.Native.Nat.{ℕ, zero, suc}
use mathlib.Core.Path.{◌≡◌, refl, ap, ◌∙◌}
use mathlib.Core.Bool.{Bool, true, false, cond}
use mathlib.Core.List.{List}
use mathlib.Core.Option.{Option, none, some}
use native.Mathlib.Omega.{arith}
use native.Mathlib.Decide.{ℕ_discrete}
use lib.Dec.{eqb, ltb}
use lib.ListN.{length}
use borrow.Author.Tests.{eq-eqb, ne_eqb}
use Rattle.list_laws.proofs.BoolLaws.{true-false}
use Rattle.formats.specs.Checks.{first_no}
use Rattle.formats.specs.Inputs.{Inputs}
use Rattle.model.specs.Calls.{advance, Answer, refused, more, finished, parts, outcome, is_refused}
use Rattle.model.specs.Calls as calls
use Rattle.screens.specs.ScreenCalls.{ScreenCall, load_all, start_on, cancel_on, read_on, deal, ScreenAnswer, one, deals}
use Rattle.screens.specs.ScreenCalls.{answer_in, refuses, one_past, load_all_checks, load_target, screen, nobody, deal_target}
use Rattle.screens.specs.ScreenCalls.{next_running, numbered, target, turn_answer}
use Rattle.screens.specs.Turns.{number_after}
use Rattle.screens.proofs.TargetLaws.{number-out}
use Rattle.session.specs.declared.state.Session.{Session}
use Rattle.screens.specs.in_place.OnStructs as on
use Rattle.screens.specs.in_place.ScreensInPlace.{ScreenInPlace, does, reads}
use Rattle.capi_session.specs.SessionExported.{answer_for, answer_number, parts_of, finished_of, answered_places, Places}
use Rattle.capi_session.specs.DecodedAnswers.{decoded_done, decoded_start, decoded_read}
use Rattle.capi_screens.specs.RunLayout.{run_length, record_at, runs, busy}
use Rattle.capi_screens.specs.ScreensExported.{target_in, answer_of, answer_all_for, ScreensStartExported}
use Rattle.capi_screens.specs.ScreensExported.{ScreensDealExported, ScreensReadExported, ScreensLoadExported}
use Rattle.capi_screens.specs.DecodedScreens.{decoded_load, decoded_deal, ScreensExports, loads_all, starts_on}
use Rattle.capi_screens.specs.DecodedScreens.{cancels_on, reads_on, deals_one}
use Rattle.capi_screens.proofs.ExportedLaws.{not-run-answer, answer-by}
use Rattle.claims.specs.Histories.{Beyond}
use Rattle.claims.proofs.laws.ByteAnswers.{refused-only}

-- ---- 25, on structs

structs-25 : (ss ss' : List Session) (c : ScreenCall) (a : ScreenAnswer) → ScreenInPlace ss c a ss'
    → on.answer_all ss c ≡ one (refused 25) → (a ≡ one (refused 25)) × (ss' ≡ ss)
unfolding answer_in
structs-25 ss ss' c a (does d) q = (d.tells ∙ q, d.unchanged (ap refuses (d.tells ∙ q)))
structs-25 ss ss' c a (reads i e) q = (e ∙ q, refl)

pub structs-another-length : (ss ss' : List Session) (c : ScreenCall) (a : ScreenAnswer) → ScreenInPlace ss c a ss'
    → (length ss ≡ 8 → ⊥) → (a ≡ one (refused 25)) × (ss' ≡ ss)
unfolding on.answer_all
structs-another-length ss ss' c a d h = structs-25 ss ss' c a d (rw (ne_eqb (length ss) 8 h))

by-target : (ss : List Session) (c : ScreenCall) → length ss ≡ 8 → on.target_in ss c ≡ nobody 25
    → on.answer_all ss c ≡ one (refused 25)
unfolding on.answer_all on.answer_of
by-target ss c l e = rw (eq-eqb (length ss) 8 l) (ap (on.answer_of ss) e)

structs-beyond : (ss : List Session) (c : ScreenCall) → Beyond c → on.target_in ss c ≡ nobody 25
unfolding on.target_in target
structs-beyond ss (load_all x) h = absurd h
structs-beyond ss (start_on i x vs bs) h = number-out i (screen i (calls.start x vs bs)) h
structs-beyond ss (cancel_on i) h = number-out i (screen i calls.cancel) h
structs-beyond ss (read_on i) h = number-out i (screen i calls.read) h
structs-beyond ss (deal k x) h = number-out k (deal_target (next_running (on.runs ss) k) x) h

pub structs-above-7 : (ss ss' : List Session) (c : ScreenCall) (a : ScreenAnswer) → ScreenInPlace ss c a ss'
    → Beyond c → (a ≡ one (refused 25)) × (ss' ≡ ss)
structs-above-7 ss ss' c a d h = elim (ℕ_discrete (length ss) 8) [
  | yes l ↦ structs-25 ss ss' c a d (by-target ss c l (structs-beyond ss c h))
  | no l ↦ structs-another-length ss ss' c a d l
]

-- ---- 25, on bytes

beyond-answer : (b : List ℕ) (c : ScreenCall) → length b ≡ run_length → Beyond c → answer_all_for b c ≡ one (refused 25)
unfolding target_in target answer_of
beyond-answer b (load_all x) l h = absurd h
beyond-answer b (start_on i x vs bs) l h =
    answer-by b (start_on i x vs bs) l (nobody 25) (number-out i (screen i (calls.start x vs bs)) h)
beyond-answer b (cancel_on i) l h = answer-by b (cancel_on i) l (nobody 25) (number-out i (screen i calls.cancel) h)
beyond-answer b (read_on i) l h = answer-by b (read_on i) l (nobody 25) (number-out i (screen i calls.read) h)
beyond-answer b (deal k x) l h =
    answer-by b (deal k x) l (nobody 25) (number-out k (deal_target (next_running (runs b) k) x) h)

-- the number of a call whose answer is 25
number-25 : (b : List ℕ) (c : ScreenCall) (r : ℕ) → r ≡ answer_number (answer_in (answer_all_for b c))
    → answer_all_for b c ≡ one (refused 25) → r ≡ 25
unfolding answer_in answer_number
number-25 b c r e q = e ∙ ap (λ (y : ScreenAnswer). answer_number (answer_in y)) q

named-25 : (b b' : List ℕ) (c : ScreenCall) (a : ScreenAnswer) → ScreensExports b c a b'
    → answer_all_for b c ≡ one (refused 25) → (a ≡ one (refused 25)) × (b' ≡ b)
unfolding decoded_load decoded_deal decoded_done decoded_start decoded_read
named-25 b b' c a (loads_all {x} r k₀ k₁ nt st e) q =
    let n = number-25 b (load_all x) r e.call.number q in
    (ap (λ (m : ℕ). decoded_load m k₁) n, e.call.unchanged (λ z. omega (arith, n, z)))
named-25 b b' c a (starts_on {i} {x} {vs} {bs} r p₀ p₁ e) q =
    let n = number-25 b (start_on i x vs bs) r e.call.number q in
    (ap (λ (m : ℕ). one (decoded_start m p₁)) n, e.call.unchanged (λ z. omega (arith, n, z)))
named-25 b b' c a (cancels_on {i} r e) q =
    let n = number-25 b (cancel_on i) r e.number q in
    (ap (λ (m : ℕ). one (decoded_done m)) n, e.unchanged (λ z. omega (arith, n, z)))
named-25 b b' c a (reads_on {i} r before after e) q =
    let n = number-25 b (read_on i) r e.number q in
    (ap (λ (m : ℕ). one (decoded_read m after)) n, refl)
named-25 b b' c a (deals_one {k} {x} r k₀ k₁ f₀ f₁ e) q =
    let n = number-25 b (deal k x) r e.call.number q in
    (ap (λ (m : ℕ). decoded_deal m k₁ f₁) n, e.call.unchanged (λ z. omega (arith, n, z)))

pub another-length : (b b' : List ℕ) (c : ScreenCall) (a : ScreenAnswer) → ScreensExports b c a b'
    → (length b ≡ run_length → ⊥) → (a ≡ one (refused 25)) × (b' ≡ b)
another-length b b' c a e h = named-25 b b' c a e (not-run-answer b c h)

pub number-above-7 : (b b' : List ℕ) (c : ScreenCall) (a : ScreenAnswer) → ScreensExports b c a b' → Beyond c
    → (a ≡ one (refused 25)) × (b' ≡ b)
number-above-7 b b' c a e h = elim (ℕ_discrete (length b) run_length) [
  | yes l ↦ named-25 b b' c a e (beyond-answer b c l h)
  | no l ↦ another-length b b' c a e l
]

-- ---- the output parameters of a refused call

pub start-kept : (b b' : List ℕ) (c : ScreenCall) (r parts₀ parts₁ : ℕ) → ScreensStartExported b c r b' parts₀ parts₁
    → (r ≡ 0 → ⊥) → parts₁ ≡ parts₀
unfolding parts_of
start-kept b b' c r p₀ p₁ e h =
    let k = refused-only (answer_in (answer_all_for b c)) (λ z. h (e.call.number ∙ z)) in
    e.parts_after ∙ ap (λ (y : Answer). parts_of y p₀) k.1

pub read_kept : (b : List ℕ) (i r : ℕ) (before after : Places) → ScreensReadExported b i r before after
    → (r ≡ 0 → ⊥) → after ≡ before
unfolding answered_places
read_kept b i r before after e h =
    let k = refused-only (answer_in (answer_all_for b (read_on i))) (λ z. h (e.number ∙ z)) in
    e.values_are ∙ ap (λ (y : Answer). answered_places y before) k.1

pub finished-kept : (b b' : List ℕ) (c : ScreenCall) (r next₀ next₁ finished₀ finished₁ : ℕ)
    → ScreensDealExported b c r b' next₀ next₁ finished₀ finished₁ → (r ≡ 0 → ⊥) → finished₁ ≡ finished₀
unfolding finished_of
finished-kept b b' c r n₀ n₁ f₀ f₁ e h =
    let k = refused-only (answer_in (answer_all_for b c)) (λ z. h (e.call.number ∙ z)) in
    e.finished_after ∙ ap (λ (y : Answer). finished_of y f₀) k.1

-- ---- the screen to try first

not-zero : (a : Answer) → is_refused a ≡ false → answer_number a ≡ 0
unfolding answer_number
not-zero (refused n) e = absurd (true-false e)
not-zero Answer.accepted e = refl
not-zero (parts p) e = refl
not-zero more e = refl
not-zero finished e = refl
not-zero (outcome o) e = refl

-- t is whether the run has its length, l whether the number is below 8
module _ (b : List ℕ) (next : ℕ) (x : Inputs) where
  abbrev Stays : ScreenAnswer → Type 0
  Stays a = (answer_number (answer_in a) ≡ 0 → ⊥) → number_after next a ≡ next

  turned : (i : ℕ) (a : Answer) (t : Bool) → is_refused a ≡ t → Stays (cond t (one a) (deals (one_past i) a))
  unfolding answer_in
  turned i a true e h = refl
  turned i a false e h = absurd (h (not-zero a e))

  dealt : (t l : Bool) (o : Option ℕ)
      → Stays (cond t (answer_of b (cond l (deal_target o x) (nobody 25))) (one (refused 25)))
  unfolding answer_of deal_target turn_answer
  dealt true true none h = refl
  dealt true true (some i) h =
      let a : Answer = answer_for (record_at b i) (advance x) in
      turned i a (is_refused a) refl h
  dealt true false o h = refl
  dealt false l o h = refl

  loaded : (t : Bool) (n : ℕ) → Stays (cond t (answer_of b (load_target n x)) (one (refused 25)))
  unfolding answer_of load_target answer_in answer_number
  loaded true zero h = absurd (h refl)
  loaded true (suc n) h = refl
  loaded false n h = refl

pub deal-next-kept : (b b' : List ℕ) (k : ℕ) (x : Inputs) (r next₀ next₁ finished₀ finished₁ : ℕ)
    → ScreensDealExported b (deal k x) r b' next₀ next₁ finished₀ finished₁ → (r ≡ 0 → ⊥) → next₁ ≡ next₀
unfolding answer_all_for target_in target numbered
deal-next-kept b b' k x r n₀ n₁ f₀ f₁ e h =
    e.next_after
    ∙ dealt b n₀ x (eqb (length b) run_length) (ltb k 8) (next_running (runs b) k) (λ z. h (e.call.number ∙ z))

pub load-next-kept : (b b' : List ℕ) (x : Inputs) (r next₀ next₁ : ℕ) (node_table' state_table' : List ℕ)
    → ScreensLoadExported b x r b' node_table' state_table' next₀ next₁ → (r ≡ 0 → ⊥) → next₁ ≡ next₀
unfolding answer_all_for target_in target
load-next-kept b b' x r n₀ n₁ nt st e h =
    e.next_after
    ∙ loaded b n₀ x (eqb (length b) run_length) (first_no (load_all_checks (busy b) x)) (λ z. h (e.call.number ∙ z))
