-- The laws of a walk from parent to parent.
--     walk-add    a walk of m + n steps is one of m steps and then one of n
--     walk-keeps  what every step keeps, a walk keeps
use Prim.Native.Nat.{ℕ, zero, suc, ◌+◌, ◌≤◌, ◌<◌}
use mathlib.Core.Path.{◌≡◌, ap, ◌∙◌}
use native.Mathlib.Omega.{arith}
use Rattle.trees.specs.Tree.{Tree, size}
use Rattle.trees.specs.Numbering.{parent, depth, ancestor}
use Rattle.trees.specs.Climb.{walk}
use Rattle.trees.proofs.NodeLaws.{up, below_root}
use Rattle.trees.proofs.JumpLaws.{ancestor-add}

module _ {X : Type 0} (step : ℕ → X → X) (t : Tree) where
  pub walk-add : (v m n : ℕ) (x : X) → walk step t v (m + n) x ≡ walk step t (ancestor t v m) n (walk step t v m x)
  unfolding walk ancestor
  walk-add v zero n x = let e : 0 + n ≡ n = omega arith in ap (λ (k : ℕ). walk step t v k x) e
  walk-add v (suc m) n x =
      let e : suc m + n ≡ suc (m + n) = omega arith in
      let f : m + 1 ≡ suc m = omega arith in
      ap (λ (k : ℕ). walk step t v k x) e
      ∙ walk-add (parent t v) m n (step v x)
      ∙ ap (λ (u : ℕ). walk step t u n (walk step t (parent t v) m (step v x)))
      (ancestor-add t v 1 m ∙ ap (ancestor t v) f)

  pub walk-keeps : (P : X → Type 0) → ((v : ℕ) (x : X) → v + 1 < size t → P x → P (step v x)) → (v n : ℕ) (x : X)
      → v < size t → n ≤ depth t v → P x → P (walk step t v n x)
  unfolding walk
  walk-keeps P k v zero x h l p = p
  walk-keeps P k v (suc n) x h l p =
      let r : v + 1 < size t = below_root t v h (omega arith) in
      walk-keeps P k (parent t v) n (step v x) (up t v r).below (omega (arith, (up t v r).deeper)) (k v x r p)
