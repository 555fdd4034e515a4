-- What a Load does to eight screens, and what a refused call does not.
--     load-clears      an accepted Load returns 0 and leaves eight records as after a first Load of that plan
--     load-empties     no finished answer is left
--     load-waits       a Load is refused with 1 while any screen runs
--     refused-alike    a refused call alters nothing, and a refused deal returns no number
use Prim.Native.Nat.{ℕ, zero, suc}
use mathlib.Core.Path.{◌≡◌, refl, sym, ap, ◌∙◌}
use mathlib.Core.Bool.{Bool, true, false, cond, not}
use mathlib.Core.List.{List, [], ◌∷◌}
use mathlib.Core.Option.{none}
use lib.Dec.{eqb}
use lib.ListN.{length, set, replicate}
use Rattle.list_laws.proofs.BoolLaws.{true-false}
use Rattle.list_laws.proofs.Choice.{by-test}
use Rattle.formats.specs.Checks.{Check, first_no, build_checks}
use Rattle.formats.specs.Inputs.{sizes_in}
use Rattle.formats.proofs.CheckLaws.{first_no-no}
use Rattle.model.specs.Calls.{Call, advance, is_refused}
use Rattle.model.specs.Model.{Record, idle, fresh_record, loaded_record, act}
use Rattle.screens.specs.ScreenCalls.{load_all, ScreenAnswer, one, loads, deals, answer_in, refuses}
use Rattle.screens.specs.ScreenCalls.{any_runs, Target}
use Rattle.screens.specs.ScreenCalls.{nobody, every_screen, screen, turn, load_all_checks, load_target, target}
use Rattle.screens.specs.ScreenCalls.{turn_answer}
use Rattle.screens.specs.EightRecords.{at, runs, ActedAll, act_on, act_all}
use Rattle.screens.specs.Statements.{LoadClears, LoadEmpties, LoadWaits, RefusedAlike}
use Rattle.screens.proofs.RecordLaws.{refused-same}
use Rattle.screens.proofs.TargetLaws.{any-yes}
use Rattle.screens.proofs.EightLaws.{on-target}

is_loads : ScreenAnswer → Bool
is_loads (one a) = false
is_loads (loads k) = true
is_loads (deals k a) = false

number_in : ScreenAnswer → ℕ
number_in (one a) = 0
number_in (loads k) = k
number_in (deals k a) = k

pub load-clears : LoadClears
unfolding act_all act_on target load_target is_loads number_in
load-clears rs x k = go (eqb (length rs) 8) (first_no (load_all_checks (runs rs) x))
  where
    go : (b : Bool) (n : ℕ) → (cond b (act_on rs (load_target n x)) (act_on rs (nobody 25))).answer ≡ loads k
        → (k ≡ 0) × ((cond b (act_on rs (load_target n x)) (act_on rs (nobody 25))).records' ≡ replicate 8
        (loaded_record (sizes_in x)))
    go true zero e = (sym (ap number_in e), refl)
    go true (suc n) e = absurd (true-false (sym (ap is_loads e)))
    go false n e = absurd (true-false (sym (ap is_loads e)))

pub load-empties : LoadEmpties
unfolding fresh_record idle
load-empties rs x k i e =
    ap (λ (l : List Record). (at l i).last) (load-clears rs x k e).1 ∙ go 8 i
  where
    go : (n j : ℕ) → (at (replicate n (loaded_record (sizes_in x))) j).last ≡ none
    go zero j = refl
    go (suc n) zero = refl
    go (suc n) (suc j) = go n j

pub load-waits : LoadWaits
unfolding act_on target load_target
load-waits rs x i long h e =
    let B : List Check = build_checks x.plan x.rules (length x.node_table) (length x.state_table) in
    let n : first_no (load_all_checks (runs rs) x) ≡ 1 =
    first_no-no 1 (not (any_runs 8 (runs rs))) B (ap not (any-yes 8 (runs rs) i h e)) in
    ap (λ (k : ActedAll). k.answer) (on-target rs (load_all x) long)
    ∙ ap (λ (m : ℕ). (act_on rs (load_target m x)).answer) n

-- ---- refusals

-- a record that is stored where it was
set_at : (rs : List Record) (i : ℕ) → set rs i (at rs i) ≡ rs
set_at [] i = refl
set_at (r ∷ rs) zero = refl
set_at (r ∷ rs) (suc i) = ap (λ (l : List Record). r ∷ l) (set_at rs i)

set-refused : (rs : List Record) (i : ℕ) (c : Call) → is_refused (act (at rs i) c).answer ≡ true
    → set rs i (act (at rs i) c).record' ≡ rs
set-refused rs i c e = ap (λ (r : Record). set rs i r) (refused-same (at rs i) c e) ∙ set_at rs i

abbrev Alike : List Record → ActedAll → Type 0
Alike rs k = refuses k.answer ≡ true → (k.answer ≡ one (answer_in k.answer)) × (k.records' ≡ rs)

target-alike : (rs : List Record) (t : Target) → Alike rs (act_on rs t)
unfolding act_on answer_in turn_answer
target-alike rs (nobody n) e = (refl, refl)
target-alike rs (every_screen x) e = absurd (true-false (sym e))
target-alike rs (screen i c) e = (refl, set-refused rs i c e)
target-alike rs (turn i x) e =
    by-test (λ (t : ScreenAnswer). refuses t ≡ true
    → (t ≡ one (answer_in t)) × (set rs i (act (at rs i) (advance x)).record' ≡ rs))
    (is_refused (act (at rs i) (advance x)).answer) (λ q z. (refl, set-refused rs i (advance x) q))
    (λ q z. absurd (true-false (sym z ∙ q))) e

pub refused-alike : RefusedAlike
unfolding act_all
refused-alike rs c = go (eqb (length rs) 8)
  where
    go : (b : Bool) → Alike rs (cond b (act_on rs (target (runs rs) c)) (act_on rs (nobody 25)))
    go true = target-alike rs (target (runs rs) c)
    go false = target-alike rs (nobody 25)
