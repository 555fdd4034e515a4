-- Weights as vectors: one count for each state, and what a part makes of the counts below.
--     by-counts           a weight is the sum of the counts, each times the weight of its state
--     total-one           the counts of a node add up to the weight of 1
--     pushed, convolved   the counts after a map of states; over two children
--     least-one, up_more  a node's total is at least 1, and its parent's at least as much: no total is above the
-- root's
use Prim.Native.Nat.{ℕ, zero, suc, ◌+◌, ◌*◌, ◌-◌, ◌≤◌, ◌<◌}
use mathlib.Core.Path.{◌≡◌, sym, ap, ◌∙◌, subst, fun_ext}
use native.Mathlib.Omega.{arith}
use native.Mathlib.Decide.{ℕ_discrete}
use native.Mathlib.Nat.{mul-le-mul, mul-le-mul_left}
use mathlib.Core.Logic.{inl, inr}
use Rattle.trees.specs.Tree.{Tree, leaf, node, size, kind_at}
use Rattle.trees.specs.Automaton.{Automaton}
use Rattle.trees.specs.Numbering.{sub, parent}
use Rattle.trees.proofs.NodeLaws.{Up, up}
use Rattle.questions.specs.ready.Ready.{left_child, right_child}
use Rattle.choices.specs.assignments.Sums.{sum_to, LabelSum, one}
use Rattle.choices.specs.assignments.inner.Weights.{weighed, weighed_at}
use Rattle.choices.proofs.assignments.SumLaws.{sum-ext, sum_one, sum-most}
use Rattle.choices.proofs.assignments.WeighLaws.{Linear, Scales, weighed-sum, weighed-times, weighed-below}
use Rattle.choices.proofs.assignments.PartWeights.{at_inner}

module _ (A : Automaton) (init : (a : ℕ) → A.ι a < A.states) (next : (p a q : ℕ) → A.δ p a q < A.states)
    (ch : LabelSum)
    (linear : Linear ch) (scales : Scales ch) (t : Tree) where
  -- how many labellings of the subtree at v end in state s
  abbrev pub count : ℕ → ℕ → ℕ
  count v s = weighed_at A ch t v (one s)

  unfoldable pub total : ℕ → ℕ
  total v = weighed_at A ch t v (λ c. 1)

  pub by-counts : (v : ℕ) (g : ℕ → ℕ) → weighed_at A ch t v g ≡ sum_to A.states (λ s. count v s * g s)
  unfolding weighed_at
  by-counts v g =
      weighed-below A init next ch (sub t v) (v + 1 - size (sub t v)) g (λ c. sum_to A.states (λ s. one s c * g s))
      (λ c h. sym (sum_one A.states c g h))
      ∙ weighed-sum A ch linear (sub t v) (v + 1 - size (sub t v)) A.states (λ s c. one s c * g s)
      ∙ sum-ext A.states _ _ (λ s _. weighed-times A ch scales (sub t v) (v + 1 - size (sub t v)) (g s) (one s))

  -- "their sum": all counts of a node
  pub total-one : (v : ℕ) → total v ≡ sum_to A.states (count v)
  unfolding total
  total-one v = by-counts v (λ c. 1) ∙ sum-ext A.states _ _ (λ s _. omega arith)

  pub count_most : (v s : ℕ) → s < A.states → count v s ≤ total v
  count_most v s h = omega (arith, total-one v, sum-most A.states (count v) s h)

  -- counts at h carried by a map of states
  pub pushed : (h s : ℕ) (f : ℕ → ℕ → ℕ) → weighed_at A ch t h (λ q. f s q)
      ≡ sum_to A.states (λ q. count h q * f s q)
  pushed h s f = by-counts h (f s)

  -- counts at two children taken together
  pub convolved : (x y : ℕ) (f : ℕ → ℕ → ℕ) → weighed_at A ch t x (λ p. weighed_at A ch t y (λ q. f p q))
      ≡ sum_to A.states (λ p. count x p * sum_to A.states (λ q. count y q * f p q))
  convolved x y f =
      by-counts x (λ p. weighed_at A ch t y (λ q. f p q))
      ∙ sum-ext A.states _ _ (λ p _. ap (λ (n : ℕ). count x p * n) (by-counts y (f p)))

  -- a constant comes out
  constant-in : (u : Tree) (lo m : ℕ) → weighed A ch u lo (λ c. m) ≡ weighed A ch u lo (λ c. 1) * m
  constant-in u lo m =
      let e : ◌≡◌ {A = ℕ → ℕ} (λ c. m) (λ c. 1 * m) = fun_ext λ c. omega arith in
      ap (weighed A ch u lo) e ∙ weighed-times A ch scales u lo m (λ c. 1)

  total-times : (v m : ℕ) → weighed_at A ch t v (λ c. m) ≡ total v * m
  unfolding total weighed_at
  total-times v m = constant-in (sub t v) (v + 1 - size (sub t v)) m

  -- the total of an inner node is the product of its children's and of its own labels' number
  pub total-inner : (v : ℕ) → v < size t → (kind_at t v ≡ 0 → ⊥)
      → total v ≡ total (left_child t v) * (total (right_child v) * ch v (λ b. 1))
  unfolding total
  total-inner v h k =
      at_inner A ch t v (λ c. 1) h k
      ∙ ap (weighed_at A ch t (left_child t v)) (fun_ext λ p. total-times (right_child v) (ch v (λ b. 1)))
      ∙ total-times (left_child t v) (total (right_child v) * ch v (λ b. 1))

  module _ (some-label : (v : ℕ) → 1 ≤ ch v (λ b. 1)) where
    least-in : (u : Tree) (lo : ℕ) → 1 ≤ weighed A ch u lo (λ c. 1)
    unfolding weighed
    least-in (leaf a) lo = some-label lo
    least-in (node l a r) lo =
        let e : weighed A ch r (lo + size l) (λ q. ch (lo + size l + size r) (λ b. 1))
        ≡ weighed A ch r (lo + size l) (λ c. 1) * ch (lo + size l + size r) (λ b. 1) = constant-in r (lo + size l)
        (ch (lo + size l + size r) (λ b. 1)) in
        subst (λ (x : ℕ). 1 ≤ x) (sym
        (constant-in l lo (weighed A ch r (lo + size l) (λ q. ch (lo + size l + size r) (λ b. 1)))))
        (mul-le-mul {n₁ = 1} {m₁ = 1} (least-in l lo)
        (subst (λ (x : ℕ). 1 ≤ x) (sym e)
        (mul-le-mul {n₁ = 1} {m₁ = 1} (least-in r (lo + size l)) (some-label (lo + size l + size r)))))

    pub least-one : (v : ℕ) → 1 ≤ total v
    unfolding total weighed_at
    least-one v = least-in (sub t v) (v + 1 - size (sub t v))

    product-more : (x y z : ℕ) → 1 ≤ y → 1 ≤ z → x ≤ x * (y * z)
    product-more x y z hy hz = omega (arith, mul-le-mul_left x (mul-le-mul {n₁ = 1} {m₁ = 1} hy hz))

    pub up_more : (v : ℕ) → v + 1 < size t → total v ≤ total (parent t v)
    up_more v h =
        let U : Up t v (parent t v) = up t v h in
        let e : total (parent t v)
        ≡ total (left_child t (parent t v)) * (total (right_child (parent t v)) * ch (parent t v) (λ b. 1)) =
        total-inner (parent t v) U.below (λ z. omega (arith, U.inside)) in
        elim U.child [
          | inl c ↦ (let r : right_child (parent t v) ≡ v = omega arith in
              let f : total (right_child (parent t v)) ≡ total v = ap total r in
              omega (
                arith,
                product-more (total (right_child (parent t v))) (ch (parent t v) (λ b. 1))
                    (total (left_child t (parent t v)))
                    (some-label (parent t v)) (least-one (left_child t (parent t v))),
              ))
          | inr c ↦ (let r : left_child t (parent t v) ≡ v = omega arith in
              let f : total (left_child t (parent t v)) ≡ total v = ap total r in
              omega (
                arith,
                product-more (total (left_child t (parent t v))) (total (right_child (parent t v)))
                    (ch (parent t v) (λ b. 1))
                    (least-one (right_child (parent t v))) (some-label (parent t v)),
              ))
        ]

    most-in : (f v : ℕ) → size t ≤ f + v + 1 → v < size t → total v ≤ total (size t - 1)
    most-in zero v l h = let q : v ≡ size t - 1 = omega arith in omega (arith, ap total q)
    most-in (suc f) v l h = elim (ℕ_discrete (v + 1) (size t)) [
      | yes e ↦ (let q : v ≡ size t - 1 = omega arith in omega (arith, ap total q))
      | no e ↦ (let U : Up t v (parent t v) = up t v (omega arith) in
          omega (arith, up_more v (omega arith), most-in f (parent t v) (omega (arith, U.above)) U.below))
    ]

    -- no total is above the root's
    pub total-most : (v : ℕ) → v < size t → total v ≤ total (size t - 1)
    total-most v h = most-in (size t) v (omega arith) h
