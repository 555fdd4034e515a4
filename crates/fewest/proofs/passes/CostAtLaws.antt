-- The costs by node number.
--     cost-leaf, cost-inner   of a leaf, and of an inner node from those of its children
--     cost-far                none is above far
use Prim.Native.Nat.{ℕ, ◌+◌, ◌-◌, ◌≤◌, ◌<◌}
use mathlib.Core.Path.{◌≡◌, ap, ◌∙◌}
use native.Mathlib.Omega.{arith}
use Rattle.trees.specs.Tree.{Tree, leaf, node, size, kind_at, label_at}
use Rattle.trees.specs.Numbering.{sub}
use Rattle.trees.proofs.NodeLaws.{sub-leaf, sub-size}
use Rattle.trees.proofs.RunLaws.{Children, children}
use Rattle.fewest.specs.Least.{least_to}
use Rattle.fewest.specs.inner.Cost.{Problem, leaf_cost, least_right, least_left, cost}
use Rattle.fewest.proofs.costs.LeastLaws.{least-far}
use Rattle.fewest.specs.inner.Problems.{cost_at}

module _ (P : Problem) where
  tree-far : (t : Tree) (lo j : ℕ) → cost P t lo j ≤ P.far
  unfolding cost
  tree-far (leaf a) lo j = least-far P.far P.labels (leaf_cost P lo a j)
  tree-far (node l a r) lo j =
      least-far P.far P.automaton.states
      (λ p. least_right P (lo + size l + size r) a j (cost P l lo p) p (λ q. cost P r (lo + size l) q))

  moved : (l r : Tree) (a j x x' y y' z z' : ℕ) → x ≡ x' → y ≡ y' → z ≡ z'
      → least_left P x a j (λ p. cost P l y p) (λ q. cost P r z q) ≡ least_left P x' a j (λ p. cost P l y' p) (λ q. cost P r z' q)
  moved l r a j x x' y y' z z' e f g = rw (e, f, g)

  module _ (t : Tree) (v : ℕ) where
    pub cost-far : (j : ℕ) → cost_at P t v j ≤ P.far
    unfolding cost_at
    cost-far j = tree-far (sub t v) (v + 1 - size (sub t v)) j

    pub cost-leaf : v < size t → kind_at t v ≡ 0 → (j : ℕ) → cost_at P t v j ≡ least_to P.far P.labels (leaf_cost P v (label_at t v) j)
    unfolding cost_at cost
    cost-leaf h e j =
        ap (λ (u : Tree). cost P u (v + 1 - size u) j) (sub-leaf t v h e)
        ∙ (let z : v + 1 - 1 ≡ v = omega arith in ap (λ (x : ℕ). least_to P.far P.labels (leaf_cost P x (label_at t v) j)) z)

    pub cost-inner : v < size t → (kind_at t v ≡ 0 → ⊥) → (j : ℕ) → cost_at P t v j
        ≡ least_left P v (label_at t v) j (cost_at P t (v - 1 - size (sub t (v - 1)))) (cost_at P t (v - 1))
    unfolding cost_at cost
    cost-inner h e j =
        let K : Children t v = children t v h e in
        let lo : ℕ = v + 1 - (size (sub t (v - 1 - size (sub t (v - 1)))) + size (sub t (v - 1)) + 1) in
        let q = sub-size t (v - 1 - size (sub t (v - 1))) (omega (arith, K.left_in)) in
        ap (λ (u : Tree). cost P u (v + 1 - size u) j) K.is
        ∙ moved (sub t (v - 1 - size (sub t (v - 1)))) (sub t (v - 1)) (label_at t v) j
        (lo + size (sub t (v - 1 - size (sub t (v - 1)))) + size (sub t (v - 1))) v
        lo (v - 1 - size (sub t (v - 1)) + 1 - size (sub t (v - 1 - size (sub t (v - 1)))))
        (lo + size (sub t (v - 1 - size (sub t (v - 1))))) (v - 1 + 1 - size (sub t (v - 1)))
        (omega (arith, K.pos, K.right-size, q)) (omega (arith, K.pos, K.right-size, q)) (omega (arith, K.pos, K.right-size, q))
