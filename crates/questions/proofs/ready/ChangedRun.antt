-- The run of a changed tree, from the run of the tree itself: what a part may take from the tables.
--     unchanged-state    where no listed node is under c, the state at c is the old run's
--     changed-up         one step up past an unlisted node, beside an unlisted subtree
--     changed-walk       so a walk from the highest member below c carries the changed run's state to c
use Rattle.std.proofs.Common.{◌≡◌, ℕ, zero, suc, ◌+◌, ◌-◌, ◌<◌, ◌≤◌, Bool, true, false, sym, refl, ap, ◌∙◌, ap₂, inl, inr, arith}
use native.Mathlib.Decide.{ℕ_discrete}
use Rattle.trees.specs.Tree.{Tree, size, kinds_of, kind_at, label_at}
use Rattle.trees.specs.Automaton.{Automaton, state}
use Rattle.trees.specs.Numbering.{sub, parent, depth, ancestor, InSubtree}
use Rattle.trees.specs.Climb.{walk}
use Rattle.trees.specs.Tables.{step_up}
use Rattle.trees.proofs.NodeLaws.{Up, up, Inner, inner}
use Rattle.trees.proofs.WalkLaws.{walk-add}
use Rattle.trees.proofs.MapLaws.{step_up-right, step_up-left}
use Rattle.trees.proofs.RunLaws.{state-inner}
use Rattle.questions.specs.ready.Ready.{left_child, right_child, Closed}
use Rattle.questions.proofs.ready.HighestLaws.{Highest, is_false}
use Rattle.questions.proofs.ready.HighestWalk.{far, way-proper, way-free, way-left, way-right}
use Rattle.questions.proofs.ready.SameTrees.{same_count, same_kind, same_size, same-sub}

-- t is the tree, u the changed one: the same kinds, and the same label at every node that w does not hold of
pub record Changes (w : ℕ → Bool) (t u : Tree) : Type 0 where
  pub kinds : kinds_of t ≡ kinds_of u
  pub labels : (v : ℕ) → w v ≡ false → label_at t v ≡ label_at u v

module _ (A : Automaton) (w : ℕ → Bool) (t u : Tree) (ch : Changes w t u) where
  pub unchanged-state : (c : ℕ) → c < size t → ((v : ℕ) → v < size t → InSubtree t c v → w v ≡ true → ⊥)
      → state A (sub t c) ≡ state A (sub u c)
  unchanged-state c h n = ap (state A) (same-sub t u ch.kinds c h (λ v p. ch.labels v (is_false (w v) (n v (omega arith) p))))

  -- y is a child of p, which is not listed, nor is any node under the other child
  module _ (y : ℕ) (h : y + 1 < size t) (free : w (parent t y) ≡ false) where
    up-y : Up t y (parent t y)
    up-y = up t y h

    at_p : Inner t (parent t y)
    at_p = inner t (parent t y) up-y.below (λ e. omega (arith, up-y.inside))

    -- the changed run at the parent, with children by the numbers of t
    parent-state : state A (sub u (parent t y))
        ≡ A.δ (state A (sub u (left_child t (parent t y)))) (label_at t (parent t y)) (state A (sub u (parent t y - 1)))
    parent-state =
        let n : parent t y < size u = omega (arith, same_count t u ch.kinds, up-y.below) in
        let k : kind_at u (parent t y) ≡ 0 → ⊥ = λ e. omega (arith, up-y.inside, same_kind t u ch.kinds (parent t y)) in
        let s : size (sub u (parent t y - 1)) ≡ size (sub t (parent t y - 1)) =
        sym (same_size t u ch.kinds (parent t y - 1) (omega (arith, up-y.below))) in
        state-inner A u (parent t y) n k
        ∙ ap₂ (λ (x a : ℕ). A.δ (state A (sub u (parent t y - 1 - x))) a (state A (sub u (parent t y - 1)))) s (sym (ch.labels (parent t y) free))

    pub changed-up : ((v : ℕ) → v < size t → w v ≡ true → (y + 1 ≡ parent t y → InSubtree t (left_child t (parent t y)) v → ⊥))
        → ((v : ℕ) → v < size t → w v ≡ true → ((y + 1 ≡ parent t y → ⊥) → InSubtree t (right_child (parent t y)) v → ⊥))
        → step_up A t y (state A (sub u y)) ≡ state A (sub u (parent t y))
    changed-up nl nr = elim (ℕ_discrete (y + 1) (parent t y)) [
      | yes e ↦ (let q : parent t y - 1 ≡ y = omega arith in
          let l : y - size (sub t y) ≡ left_child t (parent t y) = ap (λ (x : ℕ). x - size (sub t x)) (sym q) in
          step_up-right A t y h (state A (sub u y)) e
          ∙ ap₂ (λ (x z : ℕ). A.δ x (label_at t (parent t y)) z)
          (ap (λ (x : ℕ). state A (sub t x)) l
          ∙ unchanged-state (left_child t (parent t y)) (omega (arith, at_p.at, up-y.below)) (λ v hv pv wv. nl v hv wv e pv))
          (ap (λ (x : ℕ). state A (sub u x)) (sym q))
          ∙ sym parent-state)
      | no e ↦ (let l : y ≡ left_child t (parent t y) = elim up-y.child [ inl c ↦ absurd (e c) | inr c ↦ omega arith ] in
          step_up-left A t y h (state A (sub u y)) e
          ∙ ap₂ (λ (x z : ℕ). A.δ x (label_at t (parent t y)) z)
          (ap (λ (x : ℕ). state A (sub u x)) l)
          (unchanged-state (right_child (parent t y)) (omega (arith, up-y.below)) (λ v hv pv wv. nr v hv wv e pv))
          ∙ sym parent-state)
    ]

  -- ---- the walk from the highest member below c

  module _ (C : ℕ → Type 0) (closed : Closed w t C) (inside : (v : ℕ) → C v → v < size t) (c h : ℕ) (hc : c < size t)
      (H : Highest t C c h) where
    walk_step : (n : ℕ) → n < depth t h - depth t c
        → step_up A t (ancestor t h n) (state A (sub u (ancestor t h n))) ≡ state A (sub u (parent t (ancestor t h n)))
    walk_step n l =
        changed-up (ancestor t h n) (way-proper w t C closed inside c h hc H n l)
        (way-free w t C closed inside c h hc H n l)
        (λ v hv wv e q. way-left w t C closed inside c h hc H n l v hv e q wv)
        (λ v hv wv e q. way-right w t C closed inside c h hc H n l v hv e q wv)

    walk-in : (n : ℕ) → n ≤ depth t h - depth t c → walk (step_up A t) t h n (state A (sub u h)) ≡ state A (sub u (ancestor t h n))
    unfolding walk ancestor
    walk-in zero l = refl
    walk-in (suc n) l =
        let e : n + 1 ≡ suc n = omega arith in
        ap (λ (k : ℕ). walk (step_up A t) t h k (state A (sub u h))) (sym e)
        ∙ walk-add (step_up A t) t h n 1 (state A (sub u h))
        ∙ ap (step_up A t (ancestor t h n)) (walk-in n (omega arith))
        ∙ walk_step n (omega arith)

    pub changed-walk : walk (step_up A t) t h (depth t h - depth t c) (state A (sub u h)) ≡ state A (sub u c)
    changed-walk = walk-in (depth t h - depth t c) (omega arith) ∙ ap (λ (x : ℕ). state A (sub u x)) (far w t C closed inside c h hc H).1
