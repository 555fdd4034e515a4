-- The first node of a right child's subtree.
--     first-in      it is below its inner node, and above 0
--     first_leaf    it is a leaf
--     first-once    of one inner node only
--     first_of      every leaf but the plan's first node is one: the node before it is the left child
use Prim.Native.Nat.{ℕ, ◌-◌, ◌<◌}
use mathlib.Core.Path.{◌≡◌, sym, ap, ◌∙◌}
use mathlib.Core.Logic.{inl, inr}
use native.Mathlib.Decide.{ℕ_discrete}
use native.Mathlib.Omega.{arith}
use Rattle.trees.specs.Tree.{Tree, size, kind_at}
use Rattle.trees.specs.Numbering.{sub, parent}
use Rattle.trees.proofs.NodeLaws.{Inner, inner, Up, up, size-pos}
use Rattle.trees.proofs.RunLaws.{children}
use Rattle.allowed.specs.inner.clearing.Cells.{right_first}

module _ (t : Tree) where
  module _ (v : ℕ) (h : v < size t) (c : kind_at t v ≡ 0 → ⊥) where
    pub first-in : (0 < right_first t v) × (right_first t v < v)
    first-in = (omega (arith, (children t v h c).right-size), omega (arith, size-pos (sub t (v - 1)), (children t v h c).pos))

    -- the node before it has v as its parent
    pub first-parent : parent t (right_first t v - 1) ≡ v
    first-parent =
        let I : Inner t v = inner t v h c in
        let z : right_first t v - 1 ≡ I.left = omega (arith, I.at) in
        ap (parent t) z ∙ I.left_up

    pub first_leaf : kind_at t (right_first t v) ≡ 0
    first_leaf = elim (ℕ_discrete (kind_at t (right_first t v)) 0) [
      | yes e ↦ e
      | no e ↦ absurd (let J : Inner t (right_first t v) = inner t (right_first t v) (omega (arith, first-in.1)) e in
          omega (arith, J.right-up, first-parent, first-in.1))
    ]

  pub first-once : (v w : ℕ) → v < size t → (kind_at t v ≡ 0 → ⊥) → w < size t → (kind_at t w ≡ 0 → ⊥)
      → right_first t v ≡ right_first t w → v ≡ w
  first-once v w h c g d e =
      sym (first-parent v h c) ∙ ap (λ (x : ℕ). parent t (x - 1)) e ∙ first-parent w g d

  pub record FirstOf (i : ℕ) : Type 0 where
    pub top : ℕ
    pub above : i < top
    pub below : top < size t
    pub inside : kind_at t top ≡ 0 → ⊥
    pub first : right_first t top ≡ i

  pub first_of : (i : ℕ) → 0 < i → i < size t → kind_at t i ≡ 0 → FirstOf i
  first_of i pos h e =
      let U : Up t (i - 1) (parent t (i - 1)) = up t (i - 1) (omega arith) in
      elim U.child [
        | inl c ↦ absurd (let z : parent t (i - 1) ≡ i = omega arith in omega (arith, e, U.inside, ap (kind_at t) z))
        | inr c ↦ record {
          top = parent t (i - 1);
          above = elim (ℕ_discrete (parent t (i - 1)) i) [
            | yes z ↦ absurd (omega (arith, e, U.inside, ap (kind_at t) z))
            | no z ↦ omega (arith, U.above)
          ];
          below = U.below;
          inside = λ z. omega (arith, U.inside);
          first = omega arith;
        }
      ]
