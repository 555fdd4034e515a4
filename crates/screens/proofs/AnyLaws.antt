-- The search for a screen of a kind, as a loop goes through the eight from the last down.
--     any_here, any-on, any-end    found, not this one, none left
use Prim.Native.Nat.{ℕ, zero, suc, ◌-◌, ◌<◌, ◌≤◌}
use mathlib.Core.Path.{◌≡◌, sym, ◌∙◌, ap}
use mathlib.Core.Bool.{Bool, true, false, ◌||◌}
use native.Mathlib.Omega.{arith}
use Rattle.screens.specs.ScreenCalls.{Running, any_runs}

pub any_here : (run : Running) (left : ℕ) → 0 < left → run (left - 1) ≡ true → any_runs 8 run ≡ any_runs left run
    → true ≡ any_runs 8 run
unfolding any_runs
any_here run zero h e q = absurd (let z : 1 ≤ 0 = h in omega arith)
any_here run (suc n) h e q =
    let z : suc n - 1 ≡ n = omega arith in
    sym (q ∙ ap (λ (b : Bool). b || any_runs n run) (ap run (sym z) ∙ e))

pub any-on : (run : Running) (left : ℕ) → 0 < left → run (left - 1) ≡ false → any_runs 8 run ≡ any_runs left run
    → any_runs 8 run ≡ any_runs (left - 1) run
unfolding any_runs
any-on run zero h e q = absurd (let z : 1 ≤ 0 = h in omega arith)
any-on run (suc n) h e q =
    let z : suc n - 1 ≡ n = omega arith in
    q ∙ ap (λ (b : Bool). b || any_runs n run) (ap run (sym z) ∙ e) ∙ ap (λ (m : ℕ). any_runs m run) (sym z)

pub any-end : (run : Running) (left : ℕ) → left ≡ 0 → any_runs 8 run ≡ any_runs left run → false ≡ any_runs 8 run
unfolding any_runs
any-end run left z q = sym (q ∙ ap (λ (m : ℕ). any_runs m run) z)
