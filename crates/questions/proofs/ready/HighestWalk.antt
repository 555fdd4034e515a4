-- The walk from the highest member below c up to c: none of its nodes is listed, nor any node beside it.
--     far                    how far it goes
--     way-proper             a node on the way is not the root
--     way-free               its parent is not listed
--     way-left, way-right    nor is any node under the other child of its parent
use Rattle.std.proofs.Common.{◌≡◌, ℕ, suc, ◌+◌, ◌-◌, ◌<◌, ◌≤◌, Bool, true, false, sym, refl, ap, ◌∙◌, subst, inl, inr, arith}
use Rattle.trees.specs.Tree.{Tree, size, kind_at}
use Rattle.trees.specs.Numbering.{parent, depth, ancestor, InSubtree}
use Rattle.trees.proofs.NodeLaws.{Up, up, below_root}
use Rattle.trees.proofs.JumpLaws.{ancestor-add, ancestor-in, ancestor-depth, ancestor-above}
use Rattle.trees.proofs.IntervalLaws.{ancestor-interval, interval-ancestor, above_at}
use Rattle.questions.specs.ready.Ready.{left_child, right_child, Closed}
use Rattle.questions.proofs.ready.UnderLaws.{under-trans, left-under, right-under}
use Rattle.questions.proofs.ready.HighestLaws.{Highest, path-unlisted, not_left, not_right}

module _ (w : ℕ → Bool) (t : Tree) (C : ℕ → Type 0) (closed : Closed w t C) (inside : (v : ℕ) → C v → v < size t)
    (c h : ℕ) (hc : c < size t) (H : Highest t C c h) where
  hh : h < size t
  hh = inside h H.member

  pub far : (depth t c ≤ depth t h) × (ancestor t h (depth t h - depth t c) ≡ c)
  far = above_at t c h hh (interval-ancestor t c h hc hh H.below)

  -- a node on the way, not yet c
  module _ (n : ℕ) (l : n < depth t h - depth t c) where
    y-in : ancestor t h n < size t
    y-in = ancestor-in t h n hh

    y-depth : depth t (ancestor t h n) + n ≡ depth t h
    y-depth = ancestor-depth t h n hh (omega arith)

    pub way-proper : ancestor t h n + 1 < size t
    way-proper = below_root t (ancestor t h n) y-in (omega (arith, y-depth))

    y-over : InSubtree t (ancestor t h n) h
    y-over = ancestor-interval t (ancestor t h n) h n hh (omega arith) refl

    up-n : Up t (ancestor t h n) (parent t (ancestor t h n))
    up-n = up t (ancestor t h n) way-proper

    c_over : InSubtree t c (parent t (ancestor t h n))
    unfolding ancestor
    c_over =
        let k : (depth t h - depth t c - suc n) + suc n ≡ depth t h - depth t c = omega arith in
        ancestor-interval t c (parent t (ancestor t h n)) (depth t h - depth t c - suc n) up-n.below
        (omega (arith, up-n.deeper, y-depth))
        (ancestor-add t h (suc n) (depth t h - depth t c - suc n) ∙ ap (ancestor t h) k ∙ far.1)

    over-h : h < parent t (ancestor t h n)
    over-h = omega (arith, up-n.above, ancestor-above t h n hh)

    kind : kind_at t (parent t (ancestor t h n)) ≡ 1
    kind = up-n.inside

    pub way-free : w (parent t (ancestor t h n)) ≡ false
    way-free = path-unlisted w t C closed inside c h hc H (parent t (ancestor t h n)) up-n.below c_over over-h

    pub way-left : (v : ℕ) → v < size t → ancestor t h n + 1 ≡ parent t (ancestor t h n)
        → InSubtree t (left_child t (parent t (ancestor t h n))) v → w v ≡ true → ⊥
    way-left v hv e q wv =
        let p : ℕ = parent t (ancestor t h n) in
        let r : right_child p ≡ ancestor t h n = omega arith in
        not_left w t C closed inside c h hc H p up-n.below kind c_over v hv wv
        (under-trans t c p v hc up-n.below hv c_over (left-under t p up-n.below kind v q))
        (omega (arith, up-n.below)) (subst (λ (x : ℕ). InSubtree t x h) (sym r) y-over) q

    pub way-right : (v : ℕ) → v < size t → (ancestor t h n + 1 ≡ parent t (ancestor t h n) → ⊥)
        → InSubtree t (right_child (parent t (ancestor t h n))) v → w v ≡ true → ⊥
    way-right v hv e q wv =
        let p : ℕ = parent t (ancestor t h n) in
        let r : ancestor t h n ≡ left_child t p = elim up-n.child [ inl z ↦ absurd (e z) | inr z ↦ omega arith ] in
        not_right w t C closed inside c h hc H p up-n.below kind c_over v hv wv
        (under-trans t c p v hc up-n.below hv c_over (right-under t p up-n.below kind v q))
        (omega (arith, y-in)) (subst (λ (x : ℕ). InSubtree t x h) r y-over) q
