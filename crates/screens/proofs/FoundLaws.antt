-- The search for the next running screen, as a program's loop goes through it.
--     found-beyond, found_here, found-on, found_nothing    its ways out, and one iteration
--     found-next    what is found from a number up to 7 on
--     found_none, found_turn    whose a deal is, from what was found: nobody's, or that screen's turn
use Prim.Native.Nat.{ℕ, zero, suc, ◌<◌, ◌≤◌}
use mathlib.Core.Path.{◌≡◌, refl, sym, ◌∙◌, ap}
use mathlib.Core.Bool.{true, false}
use mathlib.Core.Option.{Option, none, some}
use native.Mathlib.Omega.{arith}
use borrow.Author.Tests.{lt-ltb, le-ltb}
use Rattle.formats.specs.Inputs.{Inputs}
use Rattle.screens.specs.ScreenCalls.{deal, Running, one_past, next_running_in, next_running, or_eight, found}
use Rattle.screens.specs.ScreenCalls.{nobody, turn, deal_target, target}
use Rattle.screens.proofs.TargetLaws.{next-runs, number_in}

pub found-beyond : (run : Running) (k : ℕ) → 7 < k → 9 ≡ found run k
unfolding found
found-beyond run k h = simp (le-ltb k 8 h)

pub found-next : (run : Running) (k : ℕ) → k < 8 → found run k ≡ or_eight (next_running_in 8 run k)
unfolding found next_running
found-next run k h = simp (lt-ltb k 8 h)

next_here : (run : Running) (left at : ℕ) → 0 < left → run at ≡ true → next_running_in left run at ≡ some at
unfolding next_running_in
next_here run zero at h e = absurd (let z : 1 ≤ 0 = h in omega arith)
next_here run (suc l) at h e = simp e

next-on : (run : Running) (l at : ℕ) → run at ≡ false → next_running_in (suc l) run at ≡ next_running_in l run (one_past at)
unfolding next_running_in
next-on run l at e = simp e

pub found_here : (run : Running) (k left at : ℕ) → k < 8 → 0 < left → next_running_in left run at ≡ next_running_in 8 run k
    → run at ≡ true
    → at ≡ found run k
unfolding or_eight
found_here run k left at h p e t = sym (found-next run k h ∙ ap or_eight (sym e ∙ next_here run left at p t))

pub found-on : (run : Running) (left next at : ℕ) (e : Option ℕ) → suc next ≡ left → next_running_in left run at ≡ e
    → run at ≡ false → next_running_in next run (one_past at) ≡ e
found-on run left next at e s q t = sym (next-on run next at t) ∙ ap (λ (m : ℕ). next_running_in m run at) s ∙ q

pub found_nothing : (run : Running) (k left at : ℕ) → k < 8 → left ≡ 0
    → next_running_in left run at ≡ next_running_in 8 run k → 8 ≡ found run k
unfolding or_eight next_running_in
found_nothing run k left at h z e = sym
    (found-next run k h ∙ ap or_eight (sym e ∙ ap (λ (m : ℕ). next_running_in m run at) z))

-- ---- whose a deal is

module _ (run : Running) (k f : ℕ) (x : Inputs) (h : k < 8) (e : f ≡ found run k) where
  deal-to : (o : Option ℕ) → next_running_in 8 run k ≡ o → target run (deal k x) ≡ deal_target o x
  unfolding target next_running
  deal-to o q = number_in k (deal_target (next_running_in 8 run k) x) h ∙ ap (λ (p : Option ℕ). deal_target p x) q

  pub found_none : 7 < f → target run (deal k x) ≡ nobody 1
  unfolding or_eight deal_target
  found_none big = go (next_running_in 8 run k) refl (e ∙ found-next run k h)
    where
      go : (o : Option ℕ) → next_running_in 8 run k ≡ o → f ≡ or_eight o → target run (deal k x) ≡ nobody 1
      go none q z = deal-to none q
      go (some i) q z = absurd (omega (arith, (next-runs 8 run k i h q).0, z, big))

  pub found_turn : f ≤ 7 → target run (deal k x) ≡ turn f x
  unfolding or_eight deal_target
  found_turn small = go (next_running_in 8 run k) refl (e ∙ found-next run k h)
    where
      go : (o : Option ℕ) → next_running_in 8 run k ≡ o → f ≡ or_eight o → target run (deal k x) ≡ turn f x
      go none q z = absurd (omega (arith, z, small))
      go (some i) q z = deal-to (some i) q ∙ ap (λ (m : ℕ). turn m x) (sym z)
