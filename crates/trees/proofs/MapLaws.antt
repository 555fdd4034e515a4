-- The laws of walks and of the maps to a node's jump.
--     jump-ancestor, jump-far      the jump as an ancestor, and the jump that is not the parent
--     to_jump-root, -near, -far     a walk to the jump by the walks of the parent and of its jump, for any step
--     step_up-right, step_up-left    a step of states by numbers; step_up-state: the run's states go to the run's states
--     state_map-root, -near, -far   document 01's map as Load composes it; state_map-state, state_map-below
--
-- Not here: the maps of branch tables (BranchMapLaws).
use Prim.Native.Nat.{ℕ, zero, suc, ◌+◌, ◌-◌, ◌≤◌, ◌<◌}
use mathlib.Core.Path.{◌≡◌, refl, sym, ap, ap₂, ◌∙◌}
use mathlib.Core.Bool.{Bool, true, false, cond}
use mathlib.Core.Logic.{inl, inr}
use native.Mathlib.Nat.{zero-add, suc-add}
use native.Mathlib.Numerals.{add-one}
use native.Mathlib.Decide.{ℕ_discrete}
use native.Mathlib.Omega.{arith}
use lib.Dec.{eqb}
use borrow.Author.Tests.{eq-eqb, ne_eqb}
use Rattle.trees.specs.Tree.{Tree, leaf, node, size, label_at}
use Rattle.trees.specs.Automaton.{Automaton, state}
use Rattle.trees.specs.Numbering.{sub, parent, depth, ancestor}
use Rattle.trees.specs.Jumps.{jump}
use Rattle.trees.specs.Climb.{walk}
use Rattle.trees.specs.Tables.{with_child, step_up, jump_length, state_map}
use Rattle.trees.proofs.WalkLaws.{walk-add}
use Rattle.trees.proofs.NodeLaws.{Inner, inner, up, depth-root}
use Rattle.trees.proofs.JumpLaws.{ancestor-add, jump-is, jump_in, depth-jump, jump_depth-le, jump-rule}

-- ---- ancestors and jumps

module _ (t : Tree) where
  pub ancestor-parent : (v n : ℕ) → ancestor t (parent t v) n ≡ ancestor t v (suc n)
  unfolding ancestor
  ancestor-parent v n = ancestor-add t v 1 n ∙ ap (ancestor t v) (add-one n)

  pub depth-jump-le : (v : ℕ) → v < size t → depth t (jump t v) ≤ depth t v
  depth-jump-le v h = omega (arith, depth-jump t v h, jump_depth-le (depth t v))

  pub jump-ancestor : (v : ℕ) → v < size t → jump t v ≡ ancestor t v (jump_length t v)
  jump-ancestor v h = jump-is t v (depth t (jump t v)) h (sym (depth-jump t v h))

  -- a jump that is not the parent is the parent's jump's jump
  pub jump-far : (v : ℕ) → v + 1 < size t → (jump t v ≡ parent t v → ⊥) → jump t v ≡ jump t (jump t (parent t v))
  jump-far v h ne =
      let p : ℕ = parent t v in
      let d : ℕ = depth t (jump t p) in
      go (eqb (depth t p - d) (d - depth t (jump t (jump t p)))) (jump-rule t v h)
    where
      go : (c : Bool) → jump t v ≡ cond c (jump t (jump t (parent t v))) (parent t v)
          → jump t v ≡ jump t (jump t (parent t v))
      go true e = e
      go false e = absurd (ne e)

  pub jump_length-root : (v : ℕ) → v + 1 ≡ size t → jump_length t v ≡ 0
  jump_length-root v e = omega (arith, depth-root t v e)

  pub jump_length-near : (v : ℕ) → v + 1 < size t → jump t v ≡ parent t v → jump_length t v ≡ 1
  jump_length-near v h e = rw e (omega (arith, (up t v h).deeper))

  pub jump_length-far : (v : ℕ) → v + 1 < size t → (jump t v ≡ parent t v → ⊥)
      → jump_length t v ≡ suc (jump_length t (parent t v) + jump_length t (jump t (parent t v)))
  jump_length-far v h ne =
      let p : ℕ = parent t v in
      let hp : p < size t = (up t v h).below in
      let j : depth t (jump t p) ≤ depth t p = depth-jump-le p hp in
      let k : depth t (jump t (jump t p)) ≤ depth t (jump t p) = depth-jump-le (jump t p) (jump_in t p hp) in
      rw (jump-far v h ne) (omega (arith, (up t v h).deeper))

-- ---- walks, for any step
module _ {X : Type 0} (step : ℕ → X → X) (t : Tree) where
  -- the walk to the jump
  pub to_jump-root : (v : ℕ) (x : X) → v + 1 ≡ size t → walk step t v (jump_length t v) x ≡ x
  unfolding walk
  to_jump-root v x e = ap (λ (k : ℕ). walk step t v k x) (jump_length-root t v e)

  pub to_jump-near : (v : ℕ) (x : X) → v + 1 < size t → jump t v ≡ parent t v
      → walk step t v (jump_length t v) x ≡ step v x
  unfolding walk
  to_jump-near v x h e = ap (λ (k : ℕ). walk step t v k x) (jump_length-near t v h e)

  pub to_jump-far : (v : ℕ) (x : X) → v + 1 < size t → (jump t v ≡ parent t v → ⊥)
      → walk step t v (jump_length t v) x
      ≡ walk step t (jump t (parent t v)) (jump_length t (jump t (parent t v)))
      (walk step t (parent t v) (jump_length t (parent t v)) (step v x))
  unfolding walk
  to_jump-far v x h ne =
      let p : ℕ = parent t v in
      ap (λ (k : ℕ). walk step t v k x) (jump_length-far t v h ne)
      ∙ walk-add step t p (jump_length t p) (jump_length t (jump t p)) (step v x)
      ∙ ap (λ (u : ℕ). walk step t u (jump_length t (jump t p)) (walk step t p (jump_length t p) (step v x)))
      (sym (jump-ancestor t p (up t v h).below))

  -- what each step keeps, a walk keeps
  pub walk-keeps-all : (P : X → Type 0) → ((v : ℕ) (x : X) → P x → P (step v x)) → (v n : ℕ) (x : X) → P x
      → P (walk step t v n x)
  unfolding walk
  walk-keeps-all P k v zero x h = h
  walk-keeps-all P k v (suc n) x h = walk-keeps-all P k (parent t v) n (step v x) (k v x h)

-- ---- the other child

module _ (t : Tree) (v : ℕ) (h : v + 1 < size t) where
  pub parent-inner : Inner t (parent t v)
  parent-inner = inner t (parent t v) (up t v h).below (λ e. omega (arith, (up t v h).inside))

  pub parent-pos : 0 < parent t v
  parent-pos = omega (arith, (up t v h).above)

  -- of a right child
  module _ (e : v + 1 ≡ parent t v) where
    left-sibling-is : v - size (sub t v) ≡ parent-inner.left
    left-sibling-is =
        let r : parent t v - 1 ≡ v = omega arith in
        let s : size (sub t (parent t v - 1)) ≡ size (sub t v) = ap (λ (u : ℕ). size (sub t u)) r in
        omega (arith, parent-inner.at)

    pub right-child-size : size (sub t v) ≤ v
    right-child-size =
        let r : parent t v - 1 ≡ v = omega arith in
        let s : size (sub t (parent t v - 1)) ≡ size (sub t v) = ap (λ (u : ℕ). size (sub t u)) r in
        omega (arith, parent-inner.at)

    pub left-sibling-in : v - size (sub t v) < size t
    left-sibling-in = omega arith

  -- of a left child
  module _ (e : v + 1 ≡ parent t v → ⊥) where
    left-child-is : v ≡ parent-inner.left
    left-child-is = elim (up t v h).child [ inl c ↦ absurd (e c) | inr c ↦ omega (arith, parent-inner.at) ]

    pub right-sibling-in : parent t v - 1 < size t
    right-sibling-in = omega (arith, (up t v h).below)

-- ---- a step of states

module _ (A : Automaton) (t : Tree) (v : ℕ) (h : v + 1 < size t) where
  pub step_up-right : (q : ℕ) → v + 1 ≡ parent t v
      → step_up A t v q ≡ A.δ (state A (sub t (v - size (sub t v)))) (label_at t (parent t v)) q
  unfolding step_up
  step_up-right q e =
      ap₂ (λ (b : Bool) (s : Tree). with_child A b q s) (eq-eqb (v + 1) (parent t v) e) (parent-inner t v h).is
      ∙ ap (λ (u : ℕ). A.δ (state A (sub t u)) (label_at t (parent t v)) q) (sym (left-sibling-is t v h e))

  pub step_up-left : (q : ℕ) → (v + 1 ≡ parent t v → ⊥)
      → step_up A t v q ≡ A.δ q (label_at t (parent t v)) (state A (sub t (parent t v - 1)))
  unfolding step_up
  step_up-left q e =
      ap₂ (λ (b : Bool) (s : Tree). with_child A b q s) (ne_eqb (v + 1) (parent t v) e) (parent-inner t v h).is

  -- the run's state at a node goes to the run's state at its parent
  pub step_up-state : step_up A t v (state A (sub t v)) ≡ state A (sub t (parent t v))
  step_up-state = elim (ℕ_discrete (v + 1) (parent t v)) [
    | yes e ↦ (let r : v ≡ parent t v - 1 = omega arith in
        step_up-right (state A (sub t v)) e
        ∙ ap₂ (λ (u w : ℕ). A.δ (state A (sub t u)) (label_at t (parent t v)) (state A (sub t w)))
        (left-sibling-is t v h e) r
        ∙ sym (ap (state A) (parent-inner t v h).is))
    | no e ↦ step_up-left (state A (sub t v)) e
        ∙ ap (λ (u : ℕ). A.δ (state A (sub t u)) (label_at t (parent t v)) (state A (sub t (parent t v - 1))))
        (left-child-is t v h e)
        ∙ sym (ap (state A) (parent-inner t v h).is)
  ]

module _ (A : Automaton) (t : Tree) where
  pub step_up-below : ((p a q : ℕ) → A.δ p a q < A.states) → (v q : ℕ) → q < A.states → step_up A t v q < A.states
  unfolding step_up
  step_up-below below v q h = go (eqb (v + 1) (parent t v)) (sub t (parent t v))
    where
      go : (b : Bool) (s : Tree) → with_child A b q s < A.states
      go b (leaf a) = h
      go true (node l a r) = below (state A l) a q
      go false (node l a r) = below q a (state A r)

  -- so does a walk
  pub walk-state : (v n : ℕ) → v < size t → n ≤ depth t v
      → walk (step_up A t) t v n (state A (sub t v)) ≡ state A (sub t (ancestor t v n))
  unfolding walk ancestor
  walk-state v zero h l = refl
  walk-state v (suc n) h l = elim (ℕ_discrete (v + 1) (size t)) [
    | yes e ↦ absurd (omega (arith, depth-root t v e))
    | no e ↦ (let g : v + 1 < size t = omega arith in
        ap (walk (step_up A t) t (parent t v) n) (step_up-state A t v g)
        ∙ walk-state (parent t v) n (up t v g).below (omega (arith, (up t v g).deeper))
        ∙ ap (λ (u : ℕ). state A (sub t u)) (ancestor-parent t v n))
  ]

  -- ---- the map of a rule table

  pub state_map-root : (v q : ℕ) → v + 1 ≡ size t → state_map A t v q ≡ q
  unfolding state_map
  state_map-root v q e = to_jump-root (step_up A t) t v q e

  pub state_map-near : (v q : ℕ) → v + 1 < size t → jump t v ≡ parent t v → state_map A t v q ≡ step_up A t v q
  unfolding state_map
  state_map-near v q h e = to_jump-near (step_up A t) t v q h e

  pub state_map-far : (v q : ℕ) → v + 1 < size t → (jump t v ≡ parent t v → ⊥)
      → state_map A t v q ≡ state_map A t (jump t (parent t v)) (state_map A t (parent t v) (step_up A t v q))
  unfolding state_map
  state_map-far v q h ne = to_jump-far (step_up A t) t v q h ne

  pub state_map-below : ((p a q : ℕ) → A.δ p a q < A.states) → (v q : ℕ) → q < A.states → state_map A t v q < A.states
  unfolding state_map
  state_map-below below v q h =
      walk-keeps-all (step_up A t) t (λ (x : ℕ). x < A.states) (step_up-below below) v (jump_length t v) q h

  pub state_map-state : (v : ℕ) → v < size t → state_map A t v (state A (sub t v)) ≡ state A (sub t (jump t v))
  unfolding state_map
  state_map-state v h =
      walk-state v (jump_length t v) h (omega arith) ∙ ap (λ (u : ℕ). state A (sub t u)) (sym (jump-ancestor t v h))
