-- Ancestors by node numbers: in post-order the subtree of u is the run of its size that ends at u.
--     ancestor-interval    an ancestor's run holds the node
--     interval-ancestor    a node in u's run has the ancestor u
--     above_at             u is then depth t l - depth t u parents above l
use Prim.Native.Nat.{ℕ, zero, suc, ◌+◌, ◌-◌, ◌≤◌, ◌<◌}
use mathlib.Core.Path.{◌≡◌, sym, ap, ◌∙◌, subst}
use mathlib.Core.Logic.{inl, inr}
use native.Mathlib.Decide.{ℕ_discrete}
use native.Mathlib.Omega.{arith}
use lib.ListN.{get_or}
use Rattle.trees.specs.Tree.{Tree, size, kinds_of}
use Rattle.trees.specs.Numbering.{sub, parent, depth, ancestor, InSubtree, AtOrBelow}
use Rattle.list_laws.proofs.Choice.{le-or}
use Rattle.trees.proofs.NodeLaws.{Inner, inner, Up, up, sub-leaf, size-pos, below_root}
use Rattle.trees.proofs.JumpLaws.{ancestor-in, ancestor-depth}

module _ (t : Tree) where
  -- an inner node's subtree is its children's and itself
  inner-size : (v : ℕ) (i : Inner t v) → size (sub t v) ≡ size (sub t i.left) + size (sub t (v - 1)) + 1
  inner-size v i = ap size i.is

  -- ---- an ancestor's run

  parent-within : (l w : ℕ) → w + 1 < size t → InSubtree t w l → InSubtree t (parent t w) l
  parent-within l w h c =
      let u : Up t w (parent t w) = up t w h in
      let i : Inner t (parent t w) = inner t (parent t w) u.below (λ e. omega (arith, u.inside)) in
      elim u.child [
        | inl e ↦ (let z : w ≡ parent t w - 1 = omega arith in
            let s : size (sub t w) ≡ size (sub t (parent t w - 1)) = ap (λ (x : ℕ). size (sub t x)) z in
            (omega arith, omega (arith, inner-size (parent t w) i)))
        | inr e ↦ (let z : w ≡ i.left = omega (arith, i.at) in
            let s : size (sub t w) ≡ size (sub t i.left) = ap (λ (x : ℕ). size (sub t x)) z in
            (omega arith, omega (arith, inner-size (parent t w) i)))
      ]

  above_within : (l n : ℕ) → l < size t → n ≤ depth t l → InSubtree t (ancestor t l n) l
  unfolding ancestor
  above_within l zero h d = (omega arith, omega (arith, size-pos (sub t l)))
  above_within l (suc n) h d =
      parent-within l (ancestor t l n) (below_root t (ancestor t l n) (ancestor-in t l n h)
      (omega (arith, ancestor-depth t l n h (omega arith)))) (above_within l n h (omega arith))

  pub ancestor-interval : (u l n : ℕ) → l < size t → n ≤ depth t l → ancestor t l n ≡ u → InSubtree t u l
  ancestor-interval u l n h d e = subst (λ (x : ℕ). InSubtree t x l) e (above_within l n h d)

  -- ---- a run's ancestor

  pub ancestor-distance : (u l n : ℕ) → l < size t → n ≤ depth t l → ancestor t l n ≡ u → n ≡ depth t l - depth t u
  ancestor-distance u l n h d e =
      let q : depth t u + n ≡ depth t l = subst (λ (x : ℕ). depth t x + n ≡ depth t l) e (ancestor-depth t l n h d) in
      omega arith

  self : (u l : ℕ) → u ≡ l → AtOrBelow t u l
  unfolding ancestor
  self u l e = (0, omega arith, sym e)

  -- one more parent
  one_up : (u w l : ℕ) → l < size t → w + 1 < size t → parent t w ≡ u → AtOrBelow t w l → AtOrBelow t u l
  unfolding ancestor
  one_up u w l h g e a =
      let d : depth t w + a.0 ≡ depth t l =
      subst (λ (x : ℕ). depth t x + a.0 ≡ depth t l) a.2 (ancestor-depth t l a.0 h a.1) in
      (suc a.0, omega (arith, (up t w g).deeper), ap (parent t) a.2 ∙ e)

  -- by the subtree of u: a leaf, or two children with runs of their own
  counted : (f u l : ℕ) → u < f → u < size t → l < size t → InSubtree t u l → AtOrBelow t u l
  counted zero u l g h i c = absurd (omega arith)
  counted (suc f) u l g h i c =
      elim (ℕ_discrete (get_or (kinds_of t) u 0) 0) [
        | yes e ↦ self u l (let z : size (sub t u) ≡ 1 = ap size (sub-leaf t u h e) in omega (arith, c))
        | no e ↦ (let n : Inner t u = inner t u h e in
            let z : size (sub t u) ≡ size (sub t n.left) + size (sub t (u - 1)) + 1 = inner-size u n in
            let a : n.left + size (sub t (u - 1)) + 1 ≡ u = n.at in
            le-or u l (λ k. self u l (omega (arith, c)))
            (λ k. le-or l n.left
            (λ m. one_up u n.left l i (omega arith) n.left_up
            (counted f n.left l (omega arith) (omega arith) i (m, omega (arith, c))))
            (λ m. one_up u (u - 1) l i (omega arith) n.right-up
            (counted f (u - 1) l (omega arith) (omega arith) i (omega arith, omega arith)))))
      ]

  pub interval-ancestor : (u l : ℕ) → u < size t → l < size t → InSubtree t u l → AtOrBelow t u l
  interval-ancestor u l h i c = counted (suc u) u l (omega arith) h i c

  pub above_at : (u l : ℕ) → l < size t → AtOrBelow t u l
      → (depth t u ≤ depth t l) × (ancestor t l (depth t l - depth t u) ≡ u)
  above_at u l i a =
      let e : a.0 ≡ depth t l - depth t u = ancestor-distance u l a.0 i a.1 a.2 in
      let d : depth t u + a.0 ≡ depth t l =
      subst (λ (x : ℕ). depth t x + a.0 ≡ depth t l) a.2 (ancestor-depth t l a.0 i a.1) in
      (omega arith, ap (ancestor t l) (sym e) ∙ a.2)
