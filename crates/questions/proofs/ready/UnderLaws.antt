-- The laws of subtrees by node numbers, and of lowest common ancestors.
--     under-self, under-trans     a node is under itself; what is under what is under c is under c
--     under_parent                what is above v and not v is above v's parent
--     under-anti                  two nodes under each other are one
--     children-apart              nothing is under both children
--     under-inner                 what is under an inner node is the node or under one of its children
--     meet-exists                 any two nodes have a lowest common ancestor
use Rattle.std.proofs.Common.{◌≡◌, ℕ, zero, suc, ◌+◌, ◌<◌, ◌≤◌, ◌⊎◌, sym, refl, ap, ◌∙◌, subst, inl, inr, arith}
use native.Mathlib.Decide.{ℕ_discrete, dec_lt}
use Rattle.trees.specs.Tree.{Tree, size, kind_at}
use Rattle.trees.specs.Numbering.{sub, parent, depth, ancestor, AtOrBelow, InSubtree}
use Rattle.trees.proofs.NodeLaws.{Inner, inner, Up, up, size-pos, sub-root, below_root}
use Rattle.trees.proofs.JumpLaws.{ancestor-add, ancestor-depth}
use Rattle.trees.proofs.IntervalLaws.{ancestor-interval, interval-ancestor}
use Rattle.questions.specs.ready.Ready.{left_child, right_child, Meet}

module _ (t : Tree) where
  pub under-self : (c : ℕ) → InSubtree t c c
  under-self c = (omega arith, omega (arith, size-pos (sub t c)))

  pub under-trans : (a b c : ℕ) → a < size t → b < size t → c < size t → InSubtree t a b → InSubtree t b c → InSubtree t a c
  under-trans a b c ha hb hc p q =
      let A : AtOrBelow t a b = interval-ancestor t a b ha hb p in
      let B : AtOrBelow t b c = interval-ancestor t b c hb hc q in
      let e : depth t b + B.0 ≡ depth t c = subst (λ (x : ℕ). depth t x + B.0 ≡ depth t c) B.2 (ancestor-depth t c B.0 hc B.1) in
      ancestor-interval t a c (A.0 + B.0) hc (omega (arith, A.1))
      (sym (ancestor-add t c B.0 A.0) ∙ ap (λ (x : ℕ). ancestor t x A.0) B.2 ∙ A.2)

  pub under-anti : (a b : ℕ) → InSubtree t a b → InSubtree t b a → a ≡ b
  under-anti a b p q = omega arith

  pub under_parent : (y v : ℕ) → y < size t → v < size t → InSubtree t y v → (y ≡ v → ⊥) → (v + 1 < size t) × InSubtree t y (parent t v)
  unfolding ancestor
  under_parent y v hy hv p ne = go (interval-ancestor t y v hy hv p)
    where
      go : AtOrBelow t y v → (v + 1 < size t) × InSubtree t y (parent t v)
      go (zero, l, e) = absurd (ne (sym e))
      go (suc n, l, e) =
          let r : v + 1 < size t = below_root t v hv (omega arith) in
          let u : Up t v (parent t v) = up t v r in (
            r,
            ancestor-interval t y (parent t v) n u.below (omega (arith, u.deeper))
                (ancestor-add t v 1 n ∙ ap (ancestor t v) (let f : n + 1 ≡ suc n = omega arith in f) ∙ e),
          )

  pub under_up : (v : ℕ) → v + 1 < size t → InSubtree t (parent t v) v
  unfolding ancestor
  under_up v h = ancestor-interval t (parent t v) v 1 (omega arith) (omega (arith, (up t v h).deeper)) refl

  -- ---- children

  module _ (v : ℕ) (h : v < size t) (k : kind_at t v ≡ 1) where
    i : Inner t v
    i = inner t v h (λ e. omega arith)

    left_is : left_child t v ≡ i.left
    left_is = omega (arith, i.at)

    pub left_in : left_child t v < v
    left_in = omega (arith, i.at)

    pub left-parent : parent t (left_child t v) ≡ v
    left-parent = ap (parent t) left_is ∙ i.left_up

    pub right-parent : parent t (right_child v) ≡ v
    right-parent = i.right-up

    pub right_in : right_child v < v
    right_in = omega (arith, i.at)

    sizes : size (sub t v) ≡ size (sub t (left_child t v)) + size (sub t (right_child v)) + 1
    sizes = ap size i.is ∙ ap (λ (x : ℕ). size (sub t x) + size (sub t (right_child v)) + 1) (sym left_is)

    pub children-apart : (u : ℕ) → InSubtree t (left_child t v) u → InSubtree t (right_child v) u → ⊥
    children-apart u p q = omega (arith, i.at)

    pub under-inner : (u : ℕ) → InSubtree t v u → (u ≡ v) ⊎ (InSubtree t (left_child t v) u ⊎ InSubtree t (right_child v) u)
    under-inner u p = elim (ℕ_discrete u v) [
      | yes e ↦ inl e
      | no e ↦ inr (elim (dec_lt (left_child t v) u) [
        | yes l ↦ inr (omega (arith, i.at), omega (arith, i.at))
        | no l ↦ inl (omega arith, omega (arith, i.at, sizes))
      ])
    ]

    pub left-under : (u : ℕ) → InSubtree t (left_child t v) u → InSubtree t v u
    left-under u p = (omega (arith, left_in), omega (arith, i.at, sizes))

    pub right-under : (u : ℕ) → InSubtree t (right_child v) u → InSubtree t v u
    right-under u p = (omega (arith, right_in), omega (arith, i.at, sizes))

  -- ---- lowest common ancestors

  pub under-root : (r u : ℕ) → r + 1 ≡ size t → u < size t → InSubtree t r u
  under-root r u e h = (omega arith, omega (arith, ap size (sub-root t r e)))

  pub meet-here : (u v : ℕ) → v < size t → InSubtree t v u → Meet t u v v
  meet-here u v h p = record { inside = h; first = p; second = under-self v; lowest = λ y hy a b. b }

  pub meet-up : (u v x : ℕ) → u < size t → v + 1 < size t → (InSubtree t v u → ⊥) → Meet t u (parent t v) x → Meet t u v x
  meet-up u v x hu h ne m = record {
    inside = m.inside;
    first = m.first;
    second = under-trans x (parent t v) v m.inside (up t v h).below (omega arith) m.second (under_up v h);
    lowest = λ y hy a b. m.lowest y hy a (under_parent y v hy (omega arith) b (λ e. ne (subst (λ (z : ℕ). InSubtree t z u) e a))).1;
  }

  pub under-dec : (c u : ℕ) → InSubtree t c u ⊎ (InSubtree t c u → ⊥)
  under-dec c u = elim (dec_lt c u) [
    | yes g ↦ inr (λ p. omega arith)
    | no g ↦ elim (dec_lt c (u + size (sub t c))) [
      | yes k ↦ inl (omega arith, k)
      | no k ↦ inr (λ p. omega arith)
    ]
  ]

  -- the root is above all
  not_root : (u v : ℕ) → u < size t → v < size t → (InSubtree t v u → ⊥) → v + 1 < size t
  not_root u v hu hv ne = elim (ℕ_discrete (v + 1) (size t)) [
    | yes e ↦ absurd (ne (under-root v u e hu))
    | no e ↦ omega arith
  ]

  meet-in : (f u v : ℕ) → depth t v ≤ f → u < size t → v < size t → (x : ℕ) × Meet t u v x
  meet-in zero u v l hu hv = elim (under-dec v u) [
    | inl p ↦ (v, meet-here u v hv p)
    | inr n ↦ absurd (let r : v + 1 < size t = not_root u v hu hv n in omega (arith, (up t v r).deeper))
  ]
  meet-in (suc f) u v l hu hv = elim (under-dec v u) [
    | inl p ↦ (v, meet-here u v hv p)
    | inr n ↦ (let r : v + 1 < size t = not_root u v hu hv n in
        let m : (x : ℕ) × Meet t u (parent t v) x = meet-in f u (parent t v) (omega (arith, (up t v r).deeper)) hu (up t v r).below in
        (m.0, meet-up u v m.0 hu r n m.1))
  ]

  pub meet-exists : (u v : ℕ) → u < size t → v < size t → (x : ℕ) × Meet t u v x
  meet-exists u v hu hv = meet-in (depth t v) u v (omega arith) hu hv
