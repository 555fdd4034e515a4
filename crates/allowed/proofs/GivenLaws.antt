-- A state put in at a node: the root's state, from the root down.
--     given-root                at the root it is the state put in
--     given-own                 the run's own state gives the run's own root
--     given-right, given-left   at a child, the state that follows at its parent is put in there
--     given-replaced            a state put in is that of any subtree put in
use Prim.Native.Nat.{ℕ, ◌+◌, ◌-◌, ◌≤◌, ◌<◌}
use mathlib.Core.Path.{◌≡◌, refl, sym, ap, ◌∙◌}
use native.Mathlib.Omega.{arith}
use Rattle.trees.specs.Tree.{Tree, leaf, node, size, kind_at, label_at}
use Rattle.trees.specs.Automaton.{Automaton, state}
use Rattle.trees.specs.Numbering.{sub}
use Rattle.trees.proofs.NodeLaws.{Place, in_l, in_r, top, place, split-left, split-right, split-top, size-pos, sub-size}
use Rattle.trees.proofs.RunLaws.{children}
use Rattle.allowed.specs.Clearing.{state_given, replaced}

-- ---- where the node is: in the left part, in the right part, or at the root

module _ (l : Tree) (a : ℕ) (r : Tree) (v : ℕ) where
  pub sub-left : v < size l → sub (node l a r) v ≡ sub l v
  unfolding sub
  sub-left h = split-left _ _ v _ _ _ h

  pub sub-right : (j : ℕ) → v ≡ size l + j → j < size r → sub (node l a r) v ≡ sub r j
  unfolding sub
  sub-right j e h = split-right _ _ v _ _ _ j e h

  pub sub-top : v ≡ size l + size r → sub (node l a r) v ≡ node l a r
  unfolding sub
  sub-top e = split-top _ _ v _ _ _ e

  module _ (A : Automaton) (q : ℕ) where
    pub in_left : v < size l → state_given A (node l a r) v q ≡ A.δ (state_given A l v q) a (state A r)
    unfolding state_given
    in_left h = split-left _ _ v _ _ _ h

    pub in_right : (j : ℕ) → v ≡ size l + j → j < size r
        → state_given A (node l a r) v q ≡ A.δ (state A l) a (state_given A r j q)
    unfolding state_given
    in_right j e h = split-right _ _ v _ _ _ j e h

    pub in_top : v ≡ size l + size r → state_given A (node l a r) v q ≡ q
    unfolding state_given
    in_top e = split-top _ _ v _ _ _ e

module _ (A : Automaton) where
  pub given-root : (t : Tree) (v q : ℕ) → v + 1 ≡ size t → state_given A t v q ≡ q
  unfolding state_given
  given-root (leaf a) v q e = refl
  given-root (node l a r) v q e = in_top l a r v A q (omega arith)

  pub given-own : (t : Tree) (v : ℕ) → v < size t → state_given A t v (state A (sub t v)) ≡ state A t
  unfolding state_given sub
  given-own (leaf a) v h = refl
  given-own (node l a r) v h = go (place l a r v h) (given-own l v) (λ j. given-own r j)
    where
      go : Place l r v → (v < size l → state_given A l v (state A (sub l v)) ≡ state A l)
          → ((j : ℕ) → j < size r → state_given A r j (state A (sub r j)) ≡ state A r)
          → state_given A (node l a r) v (state A (sub (node l a r) v)) ≡ state A (node l a r)
      go (in_l p) f g =
          ap (λ (s : Tree). state_given A (node l a r) v (state A s)) (sub-left l a r v p)
          ∙ in_left l a r v A (state A (sub l v)) p ∙ ap (λ (x : ℕ). A.δ x a (state A r)) (f p)
      go (in_r j e p) f g =
          ap (λ (s : Tree). state_given A (node l a r) v (state A s)) (sub-right l a r v j e p)
          ∙ in_right l a r v A (state A (sub r j)) j e p ∙ ap (A.δ (state A l) a) (g j p)
      go (top e) f g =
          in_top l a r v A (state A (sub (node l a r) v)) e ∙ ap (state A) (sub-top l a r v e)

  -- a tree in place of a subtree: the state put in is its own
  pub given-replaced : (t : Tree) (v : ℕ) (u : Tree) → v < size t
      → state A (replaced t v u) ≡ state_given A t v (state A u)
  unfolding state_given replaced
  given-replaced (leaf a) v u h = refl
  given-replaced (node l a r) v u h = go (place l a r v h) (given-replaced l v u) (λ j. given-replaced r j u)
    where
      go : Place l r v → (v < size l → state A (replaced l v u) ≡ state_given A l v (state A u))
          → ((j : ℕ) → j < size r → state A (replaced r j u) ≡ state_given A r j (state A u))
          → state A (replaced (node l a r) v u) ≡ state_given A (node l a r) v (state A u)
      go (in_l p) f g =
          ap (state A) (split-left (size l) (size r) v (node (replaced l v u) a r)
          (λ j. node l a (replaced r j u)) u p)
          ∙ ap (λ (x : ℕ). A.δ x a (state A r)) (f p) ∙ sym (in_left l a r v A (state A u) p)
      go (in_r j e p) f g =
          ap (state A) (split-right (size l) (size r) v (node (replaced l v u) a r)
          (λ j. node l a (replaced r j u)) u j e p)
          ∙ ap (A.δ (state A l) a) (g j p) ∙ sym (in_right l a r v A (state A u) j e p)
      go (top e) f g =
          ap (state A) (split-top (size l) (size r) v (node (replaced l v u) a r)
          (λ j. node l a (replaced r j u)) u e)
          ∙ sym (in_top l a r v A (state A u) e)

  -- ---- at a child

  abbrev right_step : Tree → ℕ → ℕ
  right_step (leaf a) q = 0
  right_step (node l a r) q = A.δ (state A l) a q

  abbrev left_step : Tree → ℕ → ℕ
  left_step (leaf a) q = 0
  left_step (node l a r) q = A.δ q a (state A r)

  abbrev right_size : Tree → ℕ
  right_size (leaf a) = 0
  right_size (node l a r) = size r

  at_right : (t : Tree) (v : ℕ) (x : Tree) (a : ℕ) (y : Tree) (q : ℕ) → v < size t → sub t v ≡ node x a y
      → state_given A t (v - 1) q ≡ state_given A t v (A.δ (state A x) a q)
  unfolding sub
  at_right (leaf b) v x a y q h e = absurd (omega (arith, ap size e, size-pos x))
  at_right (node l b r) v x a y q h e = go (place l b r v h) (at_right l v x a y q) (λ j. at_right r j x a y q)
    where
      go : Place l r v
          → (v < size l → sub l v ≡ node x a y → state_given A l (v - 1) q ≡ state_given A l v (A.δ (state A x) a q))
          → ((j : ℕ) → j < size r → sub r j ≡ node x a y
          → state_given A r (j - 1) q ≡ state_given A r j (A.δ (state A x) a q))
          → state_given A (node l b r) (v - 1) q ≡ state_given A (node l b r) v (A.δ (state A x) a q)
      go (in_l p) f g =
          in_left l b r (v - 1) A q (omega arith)
          ∙ ap (λ (z : ℕ). A.δ z b (state A r)) (f p (sym (sub-left l b r v p) ∙ e))
          ∙ sym (in_left l b r v A (A.δ (state A x) a q) p)
      go (in_r j i p) f g =
          let s : sub r j ≡ node x a y = sym (sub-right l b r v j i p) ∙ e in
          let z : size x + size y + 1 ≤ j + 1 = omega (arith, ap size s, sub-size r j p) in
          in_right l b r (v - 1) A q (j - 1) (omega (arith, size-pos x)) (omega arith)
          ∙ ap (A.δ (state A l) b) (g j p s)
          ∙ sym (in_right l b r v A (A.δ (state A x) a q) j i p)
      go (top i) f g =
          let s : node l b r ≡ node x a y = sym (sub-top l b r v i) ∙ e in
          in_right l b r (v - 1) A q (size r - 1) (omega (arith, size-pos r)) (omega (arith, size-pos r))
          ∙ ap (A.δ (state A l) b) (given-root r (size r - 1) q (omega (arith, size-pos r)))
          ∙ ap (λ (w : Tree). right_step w q) s
          ∙ sym (in_top l b r v A (A.δ (state A x) a q) i)

  at_left : (t : Tree) (v : ℕ) (x : Tree) (a : ℕ) (y : Tree) (q : ℕ) → v < size t → sub t v ≡ node x a y
      → state_given A t (v - 1 - size y) q ≡ state_given A t v (A.δ q a (state A y))
  unfolding sub
  at_left (leaf b) v x a y q h e = absurd (omega (arith, ap size e, size-pos x))
  at_left (node l b r) v x a y q h e = go (place l b r v h) (at_left l v x a y q) (λ j. at_left r j x a y q)
    where
      go : Place l r v
          → (v < size l → sub l v ≡ node x a y
          → state_given A l (v - 1 - size y) q ≡ state_given A l v (A.δ q a (state A y)))
          → ((j : ℕ) → j < size r → sub r j ≡ node x a y
          → state_given A r (j - 1 - size y) q ≡ state_given A r j (A.δ q a (state A y)))
          → state_given A (node l b r) (v - 1 - size y) q ≡ state_given A (node l b r) v (A.δ q a (state A y))
      go (in_l p) f g =
          in_left l b r (v - 1 - size y) A q (omega arith)
          ∙ ap (λ (z : ℕ). A.δ z b (state A r)) (f p (sym (sub-left l b r v p) ∙ e))
          ∙ sym (in_left l b r v A (A.δ q a (state A y)) p)
      go (in_r j i p) f g =
          let s : sub r j ≡ node x a y = sym (sub-right l b r v j i p) ∙ e in
          let z : size x + size y + 1 ≤ j + 1 = omega (arith, ap size s, sub-size r j p) in
          in_right l b r (v - 1 - size y) A q (j - 1 - size y) (omega (arith, size-pos x)) (omega arith)
          ∙ ap (A.δ (state A l) b) (g j p s)
          ∙ sym (in_right l b r v A (A.δ q a (state A y)) j i p)
      go (top i) f g =
          let s : node l b r ≡ node x a y = sym (sub-top l b r v i) ∙ e in
          let z : size r ≡ size y = ap right_size s in
          in_left l b r (v - 1 - size y) A q (omega (arith, size-pos l))
          ∙ ap (λ (w : ℕ). A.δ w b (state A r)) (given-root l (v - 1 - size y) q (omega (arith, size-pos l)))
          ∙ ap (λ (w : Tree). left_step w q) s
          ∙ sym (in_top l b r v A (A.δ q a (state A y)) i)

  module _ (t : Tree) (v : ℕ) (h : v < size t) (c : kind_at t v ≡ 0 → ⊥) (q : ℕ) where
    pub given-right : state_given A t (v - 1) q
        ≡ state_given A t v (A.δ (state A (sub t (v - 1 - size (sub t (v - 1))))) (label_at t v) q)
    given-right = at_right t v _ _ _ q h (children t v h c).is

    pub given-left : state_given A t (v - 1 - size (sub t (v - 1))) q
        ≡ state_given A t v (A.δ q (label_at t v) (state A (sub t (v - 1))))
    given-left = at_left t v _ _ _ q h (children t v h c).is
