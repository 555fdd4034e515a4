-- The relabelling that is shown, by node number.
--     witness-size, witness-kinds   it has the tree's kinds
--     stands                        its subtree at v is the one shown for the subtree at v and v's own state
--     leaf-label                    a leaf's label
--     InnerWay, inner-way           an inner node's label and its children's states
use Prim.Native.Nat.{ℕ, zero, suc, ◌+◌, ◌-◌, ◌≤◌, ◌<◌}
use mathlib.Core.Path.{◌≡◌, refl, sym, ap, ap₂, ◌∙◌, subst}
use mathlib.Core.List.{List, [], ◌∷◌, ◌++◌}
use lib.ListN.{get_or}
use mathlib.Core.Logic.{inl, inr}
use native.Mathlib.Decide.{ℕ_discrete}
use native.Mathlib.Omega.{arith}
use Rattle.trees.specs.Tree.{Tree, leaf, node, size, kinds_of, kind_at, label_at}
use Rattle.trees.specs.Automaton.{state, root_label}
use Rattle.trees.specs.Numbering.{sub, parent}
use Rattle.trees.proofs.NodeLaws.{sub-leaf, sub-size, sub-root, Up, up}
use Rattle.trees.proofs.RunLaws.{Children, children, label-sub}
use Rattle.fewest.specs.Least.{place_of_least}
use Rattle.fewest.specs.inner.Cost.{Problem, leaf_cost, cost, left_choice, right_choice, label_choice, witness}
use Rattle.fewest.proofs.costs.CostLaws.{InnerFound, inner-found, cost-attained}
use Rattle.fewest.specs.inner.Problems.{cost_at}
use Rattle.fewest.proofs.passes.CostAtLaws.{cost-inner}

abbrev left_of : Tree → Tree
left_of (leaf a) = leaf a
left_of (node l a r) = l

abbrev right_of : Tree → Tree
right_of (leaf a) = leaf a
right_of (node l a r) = r

module _ (P : Problem) where
  pub witness-size : (t : Tree) (lo s : ℕ) → size (witness P t lo s) ≡ size t
  unfolding witness
  witness-size (leaf a) lo s = refl
  witness-size (node l a r) lo s = ap₂ (λ (x y : ℕ). x + y + 1) (witness-size l lo _) (witness-size r (lo + size l) _)

  pub witness-kinds : (t : Tree) (lo s : ℕ) → kinds_of (witness P t lo s) ≡ kinds_of t
  unfolding witness
  witness-kinds (leaf a) lo s = refl
  witness-kinds (node l a r) lo s =
      ap₂ (λ (x y : List ℕ). x ++ (y ++ (1 ∷ []))) (witness-kinds l lo _) (witness-kinds r (lo + size l) _)

  -- what is shown for the subtree at node v and the state g
  unfoldable pub shown_at : Tree → ℕ → ℕ → Tree
  shown_at t v g = witness P (sub t v) (v + 1 - size (sub t v)) g

  shown-size : (t : Tree) (v g : ℕ) → size (shown_at t v g) ≡ size (sub t v)
  unfolding shown_at
  shown-size t v g = witness-size (sub t v) (v + 1 - size (sub t v)) g

  -- a node of what is shown, with the numbers as variables
  abbrev made : Tree → ℕ → Tree → ℕ → ℕ → ℕ → ℕ → Tree
  made l a r g x y z =
      let p : ℕ = left_choice P x a g (λ p. cost P l y p) (λ q. cost P r z q) in
      let q : ℕ = right_choice P x a g (cost P l y p) p (λ q. cost P r z q) in
      node (witness P l y p) (label_choice P x a g (cost P l y p) p (cost P r z q) q) (witness P r z q)

  made-same : (l r : Tree) (a g x x' y y' z z' : ℕ) → x ≡ x' → y ≡ y' → z ≡ z' → made l a r g x y z ≡ made l a r g x' y' z'
  made-same l r a g x x' y y' z z' e f h = rw (e, f, h)

  pub shown-leaf : (t : Tree) (v g : ℕ) → v < size t → kind_at t v ≡ 0
      → shown_at t v g ≡ leaf (place_of_least P.far P.labels (leaf_cost P v (label_at t v) g))
  unfolding shown_at witness
  shown-leaf t v g h e =
      ap (λ (u : Tree). witness P u (v + 1 - size u) g) (sub-leaf t v h e)
      ∙ (let z : v + 1 - 1 ≡ v = omega arith in ap (λ (x : ℕ). leaf (place_of_least P.far P.labels (leaf_cost P x (label_at t v) g))) z)

  -- the choice at inner node v for the state g
  module _ (t : Tree) (v g : ℕ) where
    abbrev pub left_way : ℕ
    left_way = left_choice P v (label_at t v) g (cost_at P t (v - 1 - size (sub t (v - 1)))) (cost_at P t (v - 1))

    abbrev pub right_way : ℕ
    right_way = right_choice P v (label_at t v) g (cost_at P t (v - 1 - size (sub t (v - 1))) left_way) left_way (cost_at P t (v - 1))

    abbrev pub label_way : ℕ
    label_way = label_choice P v (label_at t v) g (cost_at P t (v - 1 - size (sub t (v - 1))) left_way) left_way
        (cost_at P t (v - 1) right_way) right_way

    pub shown-inner : v < size t → (kind_at t v ≡ 0 → ⊥)
        → shown_at t v g ≡ node (shown_at t (v - 1 - size (sub t (v - 1))) left_way) label_way (shown_at t (v - 1) right_way)
    unfolding shown_at witness cost_at
    shown-inner h e =
        let K : Children t v = children t v h e in
        let lo : ℕ = v + 1 - (size (sub t (v - 1 - size (sub t (v - 1)))) + size (sub t (v - 1)) + 1) in
        let q = sub-size t (v - 1 - size (sub t (v - 1))) (omega (arith, K.left_in)) in
        ap (λ (u : Tree). witness P u (v + 1 - size u) g) K.is
        ∙ made-same (sub t (v - 1 - size (sub t (v - 1)))) (sub t (v - 1)) (label_at t v) g
        (lo + size (sub t (v - 1 - size (sub t (v - 1)))) + size (sub t (v - 1))) v
        lo (v - 1 - size (sub t (v - 1)) + 1 - size (sub t (v - 1 - size (sub t (v - 1)))))
        (lo + size (sub t (v - 1 - size (sub t (v - 1))))) (v - 1 + 1 - size (sub t (v - 1)))
        (omega (arith, K.pos, K.right-size, q)) (omega (arith, K.pos, K.right-size, q)) (omega (arith, K.pos, K.right-size, q))

    pub way-found : v < size t → (kind_at t v ≡ 0 → ⊥) → cost_at P t v g < P.far
        → InnerFound P v (label_at t v) g (cost_at P t (v - 1 - size (sub t (v - 1)))) (cost_at P t (v - 1)) left_way right_way label_way
    way-found h e low =
        inner-found P v (label_at t v) g (cost_at P t (v - 1 - size (sub t (v - 1)))) (cost_at P t (v - 1)) left_way right_way label_way
        refl refl refl (omega (arith, cost-inner P t v h e g))

  -- ---- the tree that is shown, below a root of state g₀

  module _ (t : Tree) (g₀ : ℕ) (h₀ : cost P t 0 g₀ < P.far) where
    pub record Stands (v : ℕ) : Type 0 where
      pub low : cost_at P t v (state P.automaton (sub (witness P t 0 g₀) v)) < P.far
      pub is : sub (witness P t 0 g₀) v ≡ shown_at t v (state P.automaton (sub (witness P t 0 g₀) v))

    ends : (v g : ℕ) → sub (witness P t 0 g₀) v ≡ shown_at t v g → cost_at P t v g < P.far
        → state P.automaton (sub (witness P t 0 g₀) v) ≡ g
    unfolding shown_at cost_at
    ends v g e low = ap (state P.automaton) e ∙ (cost-attained P (sub t v) (v + 1 - size (sub t v)) g low).ends

    stands_by : (v g : ℕ) → sub (witness P t 0 g₀) v ≡ shown_at t v g → cost_at P t v g < P.far → Stands v
    stands_by v g e low =
        let z : state P.automaton (sub (witness P t 0 g₀) v) ≡ g = ends v g e low in
        record { low = omega (arith, ap (cost_at P t v) z); is = e ∙ ap (shown_at t v) (sym z) }

    root_is : (v : ℕ) → v + 1 ≡ size t → (sub (witness P t 0 g₀) v ≡ shown_at t v g₀) × (cost_at P t v g₀ ≡ cost P t 0 g₀)
    unfolding shown_at cost_at
    root_is v e =
        let z : v + 1 - size t ≡ 0 = omega arith in
        let r : sub t v ≡ t = sub-root t v e in (
          sub-root (witness P t 0 g₀) v (e ∙ sym (witness-size t 0 g₀)) ∙ sym (ap (λ (u : Tree). witness P u (v + 1 - size u) g₀) r
              ∙ ap (λ (x : ℕ). witness P t x g₀) z),
          ap (λ (u : Tree). cost P u (v + 1 - size u) g₀) r ∙ ap (λ (x : ℕ). cost P t x g₀) z,
        )

    pub root-state : (v : ℕ) → v + 1 ≡ size t → state P.automaton (sub (witness P t 0 g₀) v) ≡ g₀
    root-state v e = ends v g₀ (root_is v e).0 (omega (arith, (root_is v e).1))

    -- an inner node's label and its children's states
    pub record InnerWay (w : ℕ) : Type 0 where
      pub left : state P.automaton (sub (witness P t 0 g₀) (w - 1 - size (sub t (w - 1))))
          ≡ left_way t w (state P.automaton (sub (witness P t 0 g₀) w))
      pub right : state P.automaton (sub (witness P t 0 g₀) (w - 1)) ≡ right_way t w (state P.automaton (sub (witness P t 0 g₀) w))
      pub label : label_at (witness P t 0 g₀) w ≡ label_way t w (state P.automaton (sub (witness P t 0 g₀) w))
      pub left-stands : Stands (w - 1 - size (sub t (w - 1)))
      pub right-stands : Stands (w - 1)

    same_kind : (v : ℕ) → kind_at (witness P t 0 g₀) v ≡ kind_at t v
    same_kind v = ap (λ (l : List ℕ). get_or l v 0) (witness-kinds t 0 g₀)

    module _ (w : ℕ) (h : w < size t) (S : Stands w) where
      pub leaf-label : kind_at t w ≡ 0
          → label_at (witness P t 0 g₀) w
          ≡ place_of_least P.far P.labels (leaf_cost P w (label_at t w) (state P.automaton (sub (witness P t 0 g₀) w)))
      leaf-label e =
          sym (label-sub (witness P t 0 g₀) w (omega (arith, witness-size t 0 g₀)))
          ∙ ap root_label (S.is ∙ shown-leaf t w (state P.automaton (sub (witness P t 0 g₀) w)) h e)

      pub inner-way : (kind_at t w ≡ 0 → ⊥) → InnerWay w
      inner-way e =
          let g : ℕ = state P.automaton (sub (witness P t 0 g₀) w) in
          let K : Children (witness P t 0 g₀) w =
          children (witness P t 0 g₀) w (omega (arith, witness-size t 0 g₀)) (λ z. e (sym (same_kind w) ∙ z)) in
          let F = way-found t w (state P.automaton (sub (witness P t 0 g₀) w)) h e S.low in
          let z : node (sub (witness P t 0 g₀) (w - 1 - size (sub (witness P t 0 g₀) (w - 1)))) (label_at (witness P t 0 g₀) w)
          (sub (witness P t 0 g₀) (w - 1))
          ≡ node (shown_at t (w - 1 - size (sub t (w - 1))) (left_way t w (state P.automaton (sub (witness P t 0 g₀) w))))
          (label_way t w (state P.automaton (sub (witness P t 0 g₀) w)))
          (shown_at t (w - 1) (right_way t w (state P.automaton (sub (witness P t 0 g₀) w)))) =
          sym K.is ∙ S.is ∙ shown-inner t w (state P.automaton (sub (witness P t 0 g₀) w)) h e in
          let r : sub (witness P t 0 g₀) (w - 1) ≡ shown_at t (w - 1) (right_way t w (state P.automaton (sub (witness P t 0 g₀) w))) =
          ap right_of z in
          let n : size (sub (witness P t 0 g₀) (w - 1)) ≡ size (sub t (w - 1)) = ap size r ∙ shown-size t (w - 1) _ in
          let l : sub (witness P t 0 g₀) (w - 1 - size (sub t (w - 1)))
          ≡ shown_at t (w - 1 - size (sub t (w - 1))) (left_way t w (state P.automaton (sub (witness P t 0 g₀) w))) =
          ap (λ (x : ℕ). sub (witness P t 0 g₀) (w - 1 - x)) (sym n) ∙ ap left_of z in
          record {
            left = ends (w - 1 - size (sub t (w - 1))) _ l (omega (arith, F.sum, S.low, cost-inner P t w h e (state P.automaton (sub (witness P t 0 g₀) w))));
            right = ends (w - 1) _ r (omega (arith, F.sum, S.low, cost-inner P t w h e (state P.automaton (sub (witness P t 0 g₀) w))));
            label = ap root_label z;
            left-stands = stands_by (w - 1 - size (sub t (w - 1))) _ l
                (omega (arith, F.sum, S.low, cost-inner P t w h e (state P.automaton (sub (witness P t 0 g₀) w))));
            right-stands = stands_by (w - 1) _ r
                (omega (arith, F.sum, S.low, cost-inner P t w h e (state P.automaton (sub (witness P t 0 g₀) w))));
          }

    -- from the root down
    stands_from : (n v : ℕ) → v < size t → size t ≤ v + n → Stands v
    stands_from zero v h m = absurd (omega arith)
    stands_from (suc n) v h m = elim (ℕ_discrete (v + 1) (size t)) [
      | yes e ↦ stands_by v g₀ (root_is v e).0 (omega (arith, (root_is v e).1))
      | no e ↦ below (parent t v) (up t v (omega arith)) (stands_from n (parent t v))
    ]
      where
        below : (w : ℕ) → Up t v w → (w < size t → size t ≤ w + n → Stands w) → Stands v
        below w U ih =
            let I : InnerWay w = inner-way w U.below (ih U.below (omega (arith, U.above))) (λ z. omega (arith, U.inside)) in
            elim U.child [
              | inl c ↦ (let q : w - 1 ≡ v = omega arith in subst Stands q I.right-stands)
              | inr c ↦ (let q : w - 1 - size (sub t (w - 1)) ≡ v = omega arith in subst Stands q I.left-stands)
            ]

    pub stands : (v : ℕ) → v < size t → Stands v
    stands v h = stands_from (size t) v h (omega arith)
