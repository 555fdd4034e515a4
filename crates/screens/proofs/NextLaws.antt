-- Whom a deal serves, said without the search.
--     next-is       what the search finds within f steps: the first screen that runs, or none
--     deal-serves   a deal with a number up to 7 is the turn of the first screen that runs from there on, or gives 1
--                   where none runs
use Prim.Native.Nat.{ℕ, zero, suc, ◌+◌, ◌%◌, ◌<◌}
use mathlib.Core.Path.{◌≡◌, refl, sym, ap, ◌∙◌}
use mathlib.Core.Bool.{Bool, true, false, cond}
use mathlib.Core.Logic.{◌⊎◌, inl, inr}
use mathlib.Core.Option.{Option, none, some}
use native.Mathlib.Omega.{arith}
use lib.Dec.{ltb}
use borrow.Author.Tests.{lt-ltb, ltb-false}
use Rattle.screens.specs.ScreenCalls.{Running, one_past, next_running_in, next_running, deal_target}
use Rattle.screens.specs.ScreenCalls.{numbered, target}
use Rattle.screens.specs.Statements.{Serves, DealServes}
use Rattle.screens.proofs.TargetLaws.{one-past-in}
use Rattle.screens.proofs.Steps.{Steps, steps}

pub record Within (f : ℕ) (run : Running) (k i : ℕ) : Type 0 where
  pub way : ℕ
  pub few : way < f
  pub is : i ≡ (k + way) % 8
  pub runs : run i ≡ true
  pub first : (e : ℕ) → e < way → run ((k + e) % 8) ≡ false

abbrev Found : ℕ → Running → ℕ → Option ℕ → Type 0
Found f run k none = (e : ℕ) → e < f → run ((k + e) % 8) ≡ false
Found f run k (some i) = Within f run k i

past-mod : (k e : ℕ) → k < 8 → (one_past k + e) % 8 ≡ (k + suc e) % 8
past-mod k e h = go (ltb k 7) refl
  where
    go : (b : Bool) → ltb k 7 ≡ b → (cond b (suc k) 0 + e) % 8 ≡ (k + suc e) % 8
    go true q = let z : suc k + e ≡ k + suc e = omega arith in ap (λ (n : ℕ). n % 8) z
    go false q = omega (arith, ltb-false k 7 q)

next-is : (f : ℕ) (run : Running) (k : ℕ) → k < 8 → Found f run k (next_running_in f run k)
unfolding next_running_in
next-is zero run k h = λ e l. absurd (omega arith)
next-is (suc f) run k h = go (run k) refl (next_running_in f run (one_past k))
    (next-is f run (one_past k) (one-past-in k h))
  where
    here : k ≡ (k + 0) % 8
    here = omega arith

    -- screen k does not run, nor those before d more steps
    more : (d : ℕ) → run k ≡ false → ((e : ℕ) → e < d → run ((one_past k + e) % 8) ≡ false)
        → (e : ℕ) → e < suc d → run ((k + e) % 8) ≡ false
    more d q r zero l = ap run (sym here) ∙ q
    more d q r (suc e) l = ap run (sym (past-mod k e h)) ∙ r e (omega arith)

    go : (b : Bool) → run k ≡ b → (o : Option ℕ) → Found f run (one_past k) o → Found (suc f) run k (cond b (some k) o)
    go true q o r = record { way = 0; few = omega arith; is = here; runs = q; first = λ e l. absurd (omega arith) }
    go false q none r = more f q r
    go false q (some i) r = record {
      way = suc r.way;
      few = omega (arith, r.few);
      is = r.is ∙ past-mod k r.way h;
      runs = r.runs;
      first = more r.way q r.first;
    }

-- each screen is some steps away
all-idle : (run : Running) (k : ℕ) → k < 8 → ((e : ℕ) → e < 8 → run ((k + e) % 8) ≡ false) → (i : ℕ) → i < 8
    → run i ≡ false
all-idle run k h f i hi =
    let S = steps k i h hi in
    let e : i ≡ (k + S.0) % 8 = go S.0 S.1 S.1.are in ap run e ∙ f S.0 S.1.few
  where
    go : (d : ℕ) → Steps k i d → (k + d ≡ i) ⊎ (k + d ≡ i + 8) → i ≡ (k + d) % 8
    go d s (inl p) = omega arith
    go d s (inr p) = omega arith

pub deal-serves : DealServes
unfolding target numbered next_running deal_target
deal-serves run k x h = rw (lt-ltb k 8 h) (go (next_running_in 8 run k) (next-is 8 run k h))
  where
    go : (o : Option ℕ) → Found 8 run k o → Serves run k (deal_target o x)
    go none f = (refl, all-idle run k h f)
    go (some i) f = record { way = f.way; few = f.few; is = f.is; runs = f.runs; first = f.first }
