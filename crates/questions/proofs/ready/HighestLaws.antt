-- The highest member below a node, for any set C that has what is asked of the ready set.
--     Highest c h         h is the greatest in number of C's members under c
--     highest-holds       all members under c are under h: it is the highest, and the only one such
--     path-unlisted       no node from above h up to c is listed
--     beside-unlisted     no node under the other child of a node on that path is listed
use Rattle.std.proofs.Common.{◌≡◌, ℕ, ◌<◌, ◌≤◌, Bool, true, false, refl, subst, arith}
use Rattle.trees.specs.Tree.{Tree, size, kind_at}
use Rattle.trees.specs.Numbering.{InSubtree}
use Rattle.questions.specs.ready.Ready.{left_child, right_child, Meet, Closed}
use Rattle.questions.proofs.ready.UnderLaws.{under-trans, meet-exists, children-apart}

pub record Highest (t : Tree) (C : ℕ → Type 0) (c h : ℕ) : Type 0 where
  pub member : C h
  pub below : InSubtree t c h
  pub greatest : (u : ℕ) → C u → InSubtree t c u → u ≤ h

pub is_false : (b : Bool) → (b ≡ true → ⊥) → b ≡ false
is_false true n = absurd (n refl)
is_false false n = refl

module _ (w : ℕ → Bool) (t : Tree) (C : ℕ → Type 0) (closed : Closed w t C) (inside : (v : ℕ) → C v → v < size t)
    (c h : ℕ) (hc : c < size t) (H : Highest t C c h) where
  pub highest-holds : (u : ℕ) → C u → InSubtree t c u → InSubtree t h u
  highest-holds u m p =
      let x : (x : ℕ) × Meet t u h x = meet-exists t u h (inside u m) (inside h H.member) in
      let l : x.0 ≤ h = H.greatest x.0 (closed.has_meets u h x.0 m H.member x.1) (x.1.lowest c hc p H.below) in
      let e : x.0 ≡ h = omega (arith, x.1.second) in
      subst (λ (y : ℕ). InSubtree t y u) e x.1.first

  pub path-unlisted : (x : ℕ) → x < size t → InSubtree t c x → h < x → w x ≡ false
  path-unlisted x hx p l = is_false (w x) (λ e. omega (arith, H.greatest x (closed.has_listed x hx e) p))

  -- v is above h and not above c; u, listed, is not under one of v's children where h is under the other
  module _ (v : ℕ) (hv : v < size t) (k : kind_at t v ≡ 1) (pv : InSubtree t c v) (u : ℕ) (hu : u < size t) (e : w u ≡ true) (cu : InSubtree t c u) where
    pub not_right : left_child t v < size t → InSubtree t (left_child t v) h → InSubtree t (right_child v) u → ⊥
    not_right hl a b =
        children-apart t v hv k u
        (under-trans t (left_child t v) h u hl (inside h H.member) hu a (highest-holds u (closed.has_listed u hu e) cu)) b

    pub not_left : right_child v < size t → InSubtree t (right_child v) h → InSubtree t (left_child t v) u → ⊥
    not_left hr a b =
        children-apart t v hv k u b
        (under-trans t (right_child v) h u hr (inside h H.member) hu a (highest-holds u (closed.has_listed u hu e) cu))
