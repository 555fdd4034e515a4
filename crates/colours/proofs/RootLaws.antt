-- A root whose step changes nothing has the top copy as its own.
--     root-copy   so for any number of states
--     set-root    sets of states: "the root's own"
use Prim.Native.Nat.{ℕ, zero, suc, ◌+◌, ◌≤◌, ◌<◌}
use mathlib.Core.Path.{◌≡◌, refl, sym, ap, ◌∙◌}
use native.Mathlib.Omega.{arith}
use native.Mathlib.Decide.{ℕ_discrete}
use lib.ListN.{length, get_or}
use lib.Seq.{ext_get_or}
use Rattle.trees.specs.Tree.{Tree, size}
use Rattle.trees.specs.Automaton.{Automaton}
use Rattle.colours.specs.Colouring.{Colouring}
use Rattle.colours.specs.Copies.{top_copy, copy, copy_above, lands_at}
use Rattle.colours.specs.StateSets.{set_step, set_count}
use Rattle.colours.proofs.CopyLaws.{top-at, top-colouring, copy_above-root, copy-colouring, lands_at-le}
use Rattle.colours.proofs.CopyLaws.{lands_at-state}
use Rattle.colours.proofs.SetLaws.{set_step-root, set_step-below}

module _ (n : ℕ) (step : ℕ → ℕ → ℕ) (t : Tree) (keeps : (v q : ℕ) → q < n → step v q < n) (v : ℕ) (e : v + 1 ≡ size t)
    (same : (q : ℕ) → q < n → step v q ≡ q) where
  -- colour c's state above the root is c, and c is what it leads to
  leads : (c : ℕ) → c < n → get_or (copy n step t v) (lands_at n step t c v) 0 ≡ c
  leads c h =
      let a : get_or (copy_above n step t v) c 0 ≡ c = rw (copy_above-root n step t v e) (top-at n c h) in
      lands_at-state n step t keeps c v h ∙ ap (step v) a ∙ same c h

  -- no colour falls: a lower one has a lower state
  kept : (k c : ℕ) → c < k → c < n → lands_at n step t c v ≡ c
  kept zero c l h = absurd (omega arith)
  kept (suc k) c l h =
      let d : ℕ = lands_at n step t c v in
      let low : lands_at n step t c v ≤ c = lands_at-le n step t keeps c v h in
      elim (ℕ_discrete (lands_at n step t c v) c) [
        | yes i ↦ i
        | no i ↦ absurd (i (sym (leads d (omega arith))
            ∙ ap (λ (x : ℕ). get_or (copy n step t v) x 0) (kept k d (omega arith) (omega arith)) ∙ leads c h))
      ]

  pub root-copy : copy n step t v ≡ top_copy n
  root-copy =
      let a : length (copy n step t v) ≡ n = (copy-colouring n step t keeps v).count in
      let b : length (top_copy n) ≡ n = (top-colouring n).count in
      ext_get_or 0 (copy n step t v) (top_copy n) (a ∙ sym b)
      (λ c l.
      let h : c < n = omega arith in
      ap (λ (x : ℕ). get_or (copy n step t v) x 0) (sym (kept (suc c) c (omega arith) h))
      ∙ leads c h
      ∙ sym (top-at n c h))

pub set-root : (A : Automaton) (t : Tree) (v : ℕ) → v + 1 ≡ size t
    → copy (set_count A) (set_step A t) t v ≡ top_copy (set_count A)
set-root A t v e =
    root-copy (set_count A) (set_step A t) t (set_step-below A t) v e (λ q h. set_step-root A t v q e)
