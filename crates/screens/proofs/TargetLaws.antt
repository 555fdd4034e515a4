-- Whose a call is.
--     one-past-in      the screen to try first is one of the eight
--     any-no, any-yes  whether any screen runs; or-no-left, or-no-right: neither of two
--     next-runs        the screen that a deal serves is one of the eight, and runs
--     number_in, number-out   a call that names a screen, or one to try first: up to 7, and above
--     Rightly, rightly what holds of a call's target: a Load's screens are at rest, and its inputs pass 2 to 11;
--                      a screen is one of the eight; a turn is a screen's that runs
--     target-same      a target depends only on which of the eight run
use Prim.Native.Nat.{ℕ, zero, suc, ◌<◌}
use mathlib.Core.Path.{◌≡◌, refl, sym, ap, ap₂, ◌∙◌, subst}
use mathlib.Core.Bool.{Bool, true, false, cond, not, ◌||◌}
use mathlib.Core.List.{List, ◌∷◌}
use mathlib.Core.Option.{Option, none, some, some-injective}
use native.Mathlib.Decide.{ℕ_discrete}
use native.Mathlib.Omega.{arith}
use lib.Dec.{ltb}
use lib.ListN.{length}
use borrow.Author.Tests.{ltb-true, lt-ltb, le-ltb, not-true}
use Rattle.list_laws.proofs.BoolLaws.{true-false, or-first, or-second}
use Rattle.list_laws.proofs.Choice.{by-lt}
use Rattle.formats.specs.Checks.{Check, check, first_no, build_checks}
use Rattle.formats.specs.Inputs.{Inputs}
use Rattle.formats.proofs.CheckLaws.{first_no-head, first_no-tail}
use Rattle.model.specs.Calls.{start, cancel, read}
use Rattle.screens.specs.ScreenCalls.{ScreenCall, load_all, start_on, cancel_on, read_on, deal, Running, one_past}
use Rattle.screens.specs.ScreenCalls.{next_running_in, next_running}
use Rattle.screens.specs.ScreenCalls.{any_runs, Target, nobody, every_screen, screen, turn, load_all_checks}
use Rattle.screens.specs.ScreenCalls.{load_target, deal_target, numbered}
use Rattle.screens.specs.ScreenCalls.{target}

pub one-past-in : (k : ℕ) → k < 8 → one_past k < 8
one-past-in k h = go (ltb k 7) refl
  where
    go : (b : Bool) → ltb k 7 ≡ b → cond b (suc k) 0 < 8
    go true e = omega (arith, ltb-true k 7 e)
    go false e = omega arith

-- ---- any screen

pub or-no-left : (a b : Bool) → (a || b) ≡ false → a ≡ false
or-no-left true b e = e
or-no-left false b e = refl

pub or-no-right : (a b : Bool) → (a || b) ≡ false → b ≡ false
or-no-right true b e = absurd (true-false e)
or-no-right false b e = e

pub any-no : (n : ℕ) (run : Running) → any_runs n run ≡ false → (i : ℕ) → i < n → run i ≡ false
unfolding any_runs
any-no zero run e i h = absurd (omega arith)
any-no (suc n) run e i h = elim (ℕ_discrete i n) [
  | yes q ↦ ap run q ∙ or-no-left (run n) (any_runs n run) e
  | no q ↦ any-no n run (or-no-right (run n) (any_runs n run) e) i (omega arith)
]

pub any-yes : (n : ℕ) (run : Running) (i : ℕ) → i < n → run i ≡ true → any_runs n run ≡ true
unfolding any_runs
any-yes zero run i h e = absurd (omega arith)
any-yes (suc n) run i h e = elim (ℕ_discrete i n) [
  | yes q ↦ or-first (run n) (any_runs n run) (ap run (sym q) ∙ e)
  | no q ↦ or-second (run n) (any_runs n run) (any-yes n run i (omega arith) e)
]

pub any-which : (n : ℕ) (run : Running) → any_runs n run ≡ true → (i : ℕ) × (i < n) × (run i ≡ true)
unfolding any_runs
any-which zero run e = absurd (true-false (sym e))
any-which (suc n) run e = go (any-which n run) (run n) refl e
  where
    go : (any_runs n run ≡ true → (i : ℕ) × (i < n) × (run i ≡ true)) → (b : Bool) → run n ≡ b
        → (b || any_runs n run) ≡ true
        → (i : ℕ) × (i < suc n) × (run i ≡ true)
    go later true q e = (n, omega arith, q)
    go later false q e = let w = later e in (w.0, omega (arith, w.1), w.2)

-- ---- a number

pub number_in : (i : ℕ) (t : Target) → i < 8 → numbered i t ≡ t
unfolding numbered
number_in i t h = ap (λ (b : Bool). cond b t (nobody 25)) (lt-ltb i 8 h)

pub number-out : (i : ℕ) (t : Target) → 7 < i → numbered i t ≡ nobody 25
unfolding numbered
number-out i t h = ap (λ (b : Bool). cond b t (nobody 25)) (le-ltb i 8 h)

-- ---- the next one that runs

pub next-runs : (f : ℕ) (run : Running) (k i : ℕ) → k < 8 → next_running_in f run k ≡ some i → (i < 8) × (run i ≡ true)
unfolding next_running_in
next-runs zero run k i h e = absurd (let z : ◌≡◌ {A = ℕ} 0 1 = cc in omega arith)
next-runs (suc f) run k i h e = go (next-runs f run (one_past k) i (one-past-in k h)) (run k) refl e
  where
    go : (next_running_in f run (one_past k) ≡ some i → (i < 8) × (run i ≡ true)) → (b : Bool) → run k ≡ b
        → cond b (some k) (next_running_in f run (one_past k)) ≡ some i → (i < 8) × (run i ≡ true)
    go later true q e =
        let w : k ≡ i = some-injective k i e in
        (subst (λ (m : ℕ). m < 8) w h, subst (λ (m : ℕ). run m ≡ true) w q)
    go later false q e = later e

-- ---- targets

abbrev pub Rightly : Running → Target → Type 0
Rightly run (nobody n) = Unit {0}
Rightly run (every_screen x) =
    ((i : ℕ) → i < 8 → run i ≡ false)
    × (first_no (build_checks x.plan x.rules (length x.node_table) (length x.state_table)) ≡ 0)
Rightly run (screen i c) = i < 8
Rightly run (turn i x) = (i < 8) × (run i ≡ true)

load-rightly : (run : Running) (x : Inputs) (n : ℕ) → first_no (load_all_checks run x) ≡ n → Rightly run (load_target n x)
unfolding load_target
load-rightly run x zero e =
    let B : List Check = build_checks x.plan x.rules (length x.node_table) (length x.state_table) in
    let b = first_no-head 1 (not (any_runs 8 run)) B (omega arith) e in
    (any-no 8 run (not-true (any_runs 8 run) b), first_no-tail 1 (not (any_runs 8 run)) B (omega arith) e)
load-rightly run x (suc n) e = tt

numbered-rightly : (run : Running) (i : ℕ) (t : Target) → (i < 8 → Rightly run t) → Rightly run (numbered i t)
unfolding numbered
numbered-rightly run i t f = by-lt (Rightly run) {x = t} {y = nobody 25} i 8 f (λ l. tt)

next-rightly : (run : Running) (k : ℕ) (x : Inputs) → k < 8 → Rightly run (deal_target (next_running run k) x)
unfolding next_running deal_target
next-rightly run k x h = of (next_running_in 8 run k) refl
  where
    of : (o : Option ℕ) → next_running_in 8 run k ≡ o → Rightly run (deal_target o x)
    of none e = tt
    of (some i) e = next-runs 8 run k i h e

pub rightly : (run : Running) (c : ScreenCall) → Rightly run (target run c)
unfolding target
rightly run (load_all x) = load-rightly run x (first_no (load_all_checks run x)) refl
rightly run (start_on i x vs bs) = numbered-rightly run i (screen i (start x vs bs)) (λ h. h)
rightly run (cancel_on i) = numbered-rightly run i (screen i cancel) (λ h. h)
rightly run (read_on i) = numbered-rightly run i (screen i read) (λ h. h)
rightly run (deal k x) = numbered-rightly run k _ (λ h. next-rightly run _ x (omega (arith, h)))

-- ---- who runs is all that a target asks

abbrev pub SameRunning : Running → Running → Type 0
SameRunning run run' = (i : ℕ) → i < 8 → run i ≡ run' i

module _ (run run' : Running) (same : SameRunning run run') where
  pub any_same : (n : ℕ) → n < 9 → any_runs n run ≡ any_runs n run'
  unfolding any_runs
  any_same zero h = refl
  any_same (suc n) h = ap₂ (λ (a b : Bool). a || b) (same n (omega arith)) (any_same n (omega arith))

  pub next-same : (f k : ℕ) → k < 8 → next_running_in f run k ≡ next_running_in f run' k
  unfolding next_running_in
  next-same zero k h = refl
  next-same (suc f) k h =
      ap₂ (λ (b : Bool) (o : Option ℕ). cond b (some k) o) (same k h) (next-same f (one_past k) (one-past-in k h))

  numbered-same : (i : ℕ) (t u : Target) → (i < 8 → t ≡ u) → numbered i t ≡ numbered i u
  unfolding numbered
  numbered-same i t u f = go (ltb i 8) refl
    where
      go : (b : Bool) → ltb i 8 ≡ b → cond b t (nobody 25) ≡ cond b u (nobody 25)
      go true e = f (ltb-true i 8 e)
      go false e = refl

  next-target : (k : ℕ) (x : Inputs) → k < 8 → deal_target (next_running run k) x ≡ deal_target (next_running run' k) x
  unfolding next_running
  next-target k x h = ap (λ (o : Option ℕ). deal_target o x) (next-same 8 k h)

  pub target-same : (c : ScreenCall) → target run c ≡ target run' c
  unfolding target
  target-same (load_all x) =
      ap (λ (b : Bool). load_target (first_no (check 1 (not b)
      ∷ build_checks x.plan x.rules (length x.node_table) (length x.state_table))) x)
      (any_same 8 (omega arith))
  target-same (start_on i x vs bs) = refl
  target-same (cancel_on i) = refl
  target-same (read_on i) = refl
  target-same (deal k x) = numbered-same k _ _ (λ h. next-target _ x (omega (arith, h)))
