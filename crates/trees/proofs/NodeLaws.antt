-- The laws of a tree's nodes by number: what is at node v, its children and its parent.
use Prim.Native.Nat.{ℕ, zero, suc, ◌+◌, ◌-◌, ◌≤◌, ◌<◌}
use mathlib.Core.Path.{◌≡◌, refl, sym, ap, ◌∙◌, subst}
use mathlib.Core.List.{[], ◌∷◌, ◌++◌}
use mathlib.Core.Logic.{◌⊎◌, ⊎_elim, inl, inr}
use native.Mathlib.Decide.{dec_lt, ℕ_discrete}
use native.Mathlib.Omega.{arith}
use lib.ListN.{length, get_or, length-append}
use borrow.Author.Tests.{lt-ltb, le-ltb, eq-eqb, ne_eqb}
use Rattle.list_laws.proofs.AppendLaws.{at_left, at-middle, at_right}
use Rattle.trees.specs.Tree.{Tree, leaf, node, kinds_of, labels_of, size}
use Rattle.trees.specs.Numbering.{split, sub, parent, depth}

-- ---- where a node is: in the left part, in the right part, or at the root

pub data Place (l r : Tree) (v : ℕ) : Type 0 where
  in_l : v < size l → Place l r v
  in_r : (j : ℕ) → v ≡ size l + j → j < size r → Place l r v
  top : v ≡ size l + size r → Place l r v

pub place : (l : Tree) (a : ℕ) (r : Tree) (v : ℕ) → v < size (node l a r) → Place l r v
place l a r v h =
    elim (dec_lt v (size l)) [
      | yes p ↦ in_l p
      | no p ↦ elim (dec_lt v (size l + size r)) [ yes q ↦ in_r (v - size l) (omega arith) (omega arith) | no q ↦ top (omega arith) ]
    ]

module _ {X : Type 0} (m n v : ℕ) (x : X) (f : ℕ → X) (y : X) where
  pub split-left : v < m → split m n v x f y ≡ x
  unfolding split
  split-left h = rw (lt-ltb v m h)

  pub split-right : (j : ℕ) → v ≡ m + j → j < n → split m n v x f y ≡ f j
  unfolding split
  split-right j e h =
      let a : m ≤ v = omega arith in
      let b : v < m + n = omega arith in
      let d : v - m ≡ j = omega arith in
      rw (le-ltb v m a, lt-ltb v (m + n) b, d)

  pub split-top : v ≡ m + n → split m n v x f y ≡ y
  unfolding split
  split-top e =
      let a : m ≤ v = omega arith in
      let b : m + n ≤ v = omega arith in
      rw (le-ltb v m a, le-ltb v (m + n) b)

-- ---- sizes and lengths

pub size-pos : (t : Tree) → 0 < size t
size-pos (leaf a) = omega arith
size-pos (node l a r) = omega arith

pub length-kinds : (t : Tree) → length (kinds_of t) ≡ size t
length-kinds (leaf a) = refl
length-kinds (node l a r) = simp (length-append, length-kinds l, length-kinds r) (omega arith)

pub length-labels : (t : Tree) → length (labels_of t) ≡ size t
length-labels (leaf a) = refl
length-labels (node l a r) = simp (length-append, length-labels l, length-labels r) (omega arith)

-- ---- the equations of a node in a tree of two parts
module _ (l : Tree) (a : ℕ) (r : Tree) (v : ℕ) where
  sub-left : v < size l → sub (node l a r) v ≡ sub l v
  unfolding sub
  sub-left h = split-left _ _ v _ _ _ h

  sub-right : (j : ℕ) → v ≡ size l + j → j < size r → sub (node l a r) v ≡ sub r j
  unfolding sub
  sub-right j e h = split-right _ _ v _ _ _ j e h

  sub-top : v ≡ size l + size r → sub (node l a r) v ≡ node l a r
  unfolding sub
  sub-top e = split-top _ _ v _ _ _ e

  kind-left : v < size l → get_or (kinds_of (node l a r)) v 0 ≡ get_or (kinds_of l) v 0
  kind-left h = at_left 0 (kinds_of l) (kinds_of r) (1 ∷ []) v (omega (arith, length-kinds l))

  kind-right : (j : ℕ) → v ≡ size l + j → j < size r → get_or (kinds_of (node l a r)) v 0 ≡ get_or (kinds_of r) j 0
  kind-right j e h =
      at-middle 0 (kinds_of l) (kinds_of r) (1 ∷ []) v j (omega (arith, length-kinds l)) (omega (arith, length-kinds r))

  kind-top : v ≡ size l + size r → get_or (kinds_of (node l a r)) v 0 ≡ 1
  kind-top e = at_right 0 (kinds_of l) (kinds_of r) (1 ∷ []) v 0 (omega (arith, length-kinds l, length-kinds r))

  label-left : v < size l → get_or (labels_of (node l a r)) v 0 ≡ get_or (labels_of l) v 0
  label-left h = at_left 0 (labels_of l) (labels_of r) (a ∷ []) v (omega (arith, length-labels l))

  label-right : (j : ℕ) → v ≡ size l + j → j < size r → get_or (labels_of (node l a r)) v 0 ≡ get_or (labels_of r) j 0
  label-right j e h =
      at-middle 0 (labels_of l) (labels_of r) (a ∷ []) v j (omega (arith, length-labels l)) (omega (arith, length-labels r))

  label-top : v ≡ size l + size r → get_or (labels_of (node l a r)) v 0 ≡ a
  label-top e = at_right 0 (labels_of l) (labels_of r) (a ∷ []) v 0 (omega (arith, length-labels l, length-labels r))

pub sub-root : (t : Tree) (v : ℕ) → v + 1 ≡ size t → sub t v ≡ t
unfolding sub
sub-root (leaf a) v e = refl
sub-root (node l a r) v e = sub-top l a r v (omega arith)

-- ---- the parent
module _ (l : Tree) (a : ℕ) (r : Tree) (v : ℕ) where
  parent-left : v + 1 < size l → parent (node l a r) v ≡ parent l v
  unfolding parent
  parent-left h = split-left _ _ v _ _ _ (omega arith) ∙ rw (ne_eqb (v + 1) (size l) (λ e. omega arith))

  parent-left-root : v + 1 ≡ size l → parent (node l a r) v ≡ size l + size r
  unfolding parent
  parent-left-root h = split-left _ _ v _ _ _ (omega arith) ∙ rw (eq-eqb (v + 1) (size l) h)

  parent-right : (j : ℕ) → v ≡ size l + j → j + 1 < size r → parent (node l a r) v ≡ size l + parent r j
  unfolding parent
  parent-right j e h = split-right _ _ v _ _ _ j e (omega arith) ∙ rw (ne_eqb (j + 1) (size r) (λ e. omega arith))

  parent-right-root : (j : ℕ) → v ≡ size l + j → j + 1 ≡ size r → parent (node l a r) v ≡ size l + size r
  unfolding parent
  parent-right-root j e h = split-right _ _ v _ _ _ j e (omega arith) ∙ rw (eq-eqb (j + 1) (size r) h)

  parent-top : v ≡ size l + size r → parent (node l a r) v ≡ size l + size r
  unfolding parent
  parent-top e = split-top _ _ v _ _ _ e

  pub depth-left : v < size l → depth (node l a r) v ≡ depth l v + 1
  unfolding depth
  depth-left h = split-left _ _ v _ _ _ h

  pub depth-right : (j : ℕ) → v ≡ size l + j → j < size r → depth (node l a r) v ≡ depth r j + 1
  unfolding depth
  depth-right j e h = split-right _ _ v _ _ _ j e h

  pub depth-top : v ≡ size l + size r → depth (node l a r) v ≡ 0
  unfolding depth
  depth-top e = split-top _ _ v _ _ _ e

pub parent-root : (t : Tree) (v : ℕ) → v + 1 ≡ size t → parent t v ≡ v
unfolding parent
parent-root (leaf a) v e = omega arith
parent-root (node l a r) v e = parent-top l a r v (omega arith) ∙ omega arith

pub depth-root : (t : Tree) (v : ℕ) → v + 1 ≡ size t → depth t v ≡ 0
unfolding depth
depth-root (leaf a) v e = refl
depth-root (node l a r) v e = depth-top l a r v (omega arith)

-- a node below depth 0 is not the root
pub below_root : (t : Tree) (v : ℕ) → v < size t → 0 < depth t v → v + 1 < size t
below_root t v h d =
    elim (ℕ_discrete (v + 1) (size t)) [ yes e ↦ absurd (omega (arith, depth-root t v e)) | no e ↦ omega arith ]

-- a subtree's nodes end at its root
pub sub-size : (t : Tree) (v : ℕ) → v < size t → size (sub t v) ≤ v + 1
unfolding sub
sub-size (leaf a) v h = omega arith
sub-size (node l a r) v h = go (place l a r v h) (sub-size l v) (λ j. sub-size r j)
  where
    go : Place l r v → (v < size l → size (sub l v) ≤ v + 1) → ((j : ℕ) → j < size r → size (sub r j) ≤ j + 1) → size (sub (node l a r) v) ≤ v + 1
    go (in_l p) il ir = rw (sub-left l a r v p) (il p)
    go (in_r j q p) il ir = rw (sub-right l a r v j q p) (omega (arith, ir j p))
    go (top q) il ir = rw (sub-top l a r v q) (omega arith)

-- ---- a leaf
pub sub-leaf : (t : Tree) (v : ℕ) → v < size t → get_or (kinds_of t) v 0 ≡ 0 → sub t v ≡ leaf (get_or (labels_of t) v 0)
unfolding sub
sub-leaf (leaf a) zero h e = refl
sub-leaf (leaf a) (suc v) h e = absurd (omega arith)
sub-leaf (node l a r) v h e = go (place l a r v h) (sub-leaf l v) (λ j. sub-leaf r j)
  where
    go : Place l r v → (v < size l → get_or (kinds_of l) v 0 ≡ 0 → sub l v ≡ leaf (get_or (labels_of l) v 0))
        → ((j : ℕ) → j < size r → get_or (kinds_of r) j 0 ≡ 0 → sub r j ≡ leaf (get_or (labels_of r) j 0))
        → sub (node l a r) v ≡ leaf (get_or (labels_of (node l a r)) v 0)
    go (in_l p) il ir = sub-left l a r v p ∙ il p (sym (kind-left l a r v p) ∙ e) ∙ ap leaf (sym (label-left l a r v p))
    go (in_r j q p) il ir = sub-right l a r v j q p ∙ ir j p (sym (kind-right l a r v j q p) ∙ e) ∙ ap leaf (sym (label-right l a r v j q p))
    go (top q) il ir = absurd (omega (arith, kind-top l a r v q))

-- ---- an inner node: its right child is v - 1, and its left child u comes just before the right child's subtree
pub record Inner (t : Tree) (v : ℕ) : Type 0 where
  pub left : ℕ
  pub at : left + size (sub t (v - 1)) + 1 ≡ v
  pub is : sub t v ≡ node (sub t left) (get_or (labels_of t) v 0) (sub t (v - 1))
  pub right-up : parent t (v - 1) ≡ v
  pub left_up : parent t left ≡ v

pub inner : (t : Tree) (v : ℕ) → v < size t → (get_or (kinds_of t) v 0 ≡ 0 → ⊥) → Inner t v
inner (leaf a) zero h e = absurd (e refl)
inner (leaf a) (suc v) h e = absurd (omega arith)
inner (node l a r) v h e = go (place l a r v h) (inner l v) (λ j. inner r j)
  where
    go : Place l r v → (v < size l → (get_or (kinds_of l) v 0 ≡ 0 → ⊥) → Inner l v)
        → ((j : ℕ) → j < size r → (get_or (kinds_of r) j 0 ≡ 0 → ⊥) → Inner r j) → Inner (node l a r) v
    go (in_l p) il ir =
        let i : Inner l v = il p (λ z. e (kind-left l a r v p ∙ z)) in
        let a2 : sub (node l a r) (v - 1) ≡ sub l (v - 1) = sub-left l a r (v - 1) (omega arith) in
        let a3 : sub (node l a r) i.left ≡ sub l i.left = sub-left l a r i.left (omega (arith, i.at)) in
        record {
          left = i.left;
          at = rw a2 i.at;
          is = cc (sub-left l a r v p, a2, a3, label-left l a r v p, i.is);
          right-up = parent-left l a r (v - 1) (omega (arith, i.at)) ∙ i.right-up;
          left_up = parent-left l a r i.left (omega (arith, i.at)) ∙ i.left_up;
        }
    go (in_r j q p) il ir =
        let i : Inner r j = ir j p (λ z. e (kind-right l a r v j q p ∙ z)) in
        let a2 : sub (node l a r) (v - 1) ≡ sub r (j - 1) = sub-right l a r (v - 1) (j - 1) (omega (arith, i.at)) (omega arith) in
        let a3 : sub (node l a r) (size l + i.left) ≡ sub r i.left = sub-right l a r (size l + i.left) i.left refl (omega (arith, i.at)) in
        record {
          left = size l + i.left;
          at = rw a2 (omega (arith, i.at));
          is = cc (sub-right l a r v j q p, a2, a3, label-right l a r v j q p, i.is);
          right-up = parent-right l a r (v - 1) (j - 1) (omega (arith, i.at)) (omega (arith, i.at)) ∙ omega (arith, i.right-up);
          left_up = parent-right l a r (size l + i.left) i.left refl (omega (arith, i.at)) ∙ omega (arith, i.left_up);
        }
    go (top q) il ir =
        let a2 : sub (node l a r) (v - 1) ≡ r = sub-right l a r (v - 1) (size r - 1) (omega (arith, size-pos r))
        (omega (arith, size-pos r)) ∙ sub-root r (size r - 1) (omega (arith, size-pos r)) in
        let a3 : sub (node l a r) (size l - 1) ≡ l = sub-left l a r (size l - 1) (omega (arith, size-pos l))
        ∙ sub-root l (size l - 1) (omega (arith, size-pos l)) in
        record {
          left = size l - 1;
          at = rw a2 (omega (arith, size-pos l));
          is = cc (sub-top l a r v q, a2, a3, label-top l a r v q);
          right-up = parent-right-root l a r (v - 1) (size r - 1) (omega (arith, size-pos r)) (omega (arith, size-pos r)) ∙ sym q;
          left_up = parent-left-root l a r (size l - 1) (omega (arith, size-pos l)) ∙ sym q;
        }

-- the node before the root is the right part's root
before-top : (l : Tree) (a : ℕ) (r : Tree) → sub (node l a r) (size l + size r - 1) ≡ r
before-top l a r =
    sub-right l a r (size l + size r - 1) (size r - 1) (omega (arith, size-pos r)) (omega (arith, size-pos r))
    ∙ sub-root r (size r - 1) (omega (arith, size-pos r))

-- node p is the parent of node v: v is its right child or its left one
pub record Up (t : Tree) (v p : ℕ) : Type 0 where
  pub above : v < p
  pub below : p < size t
  pub child : (v + 1 ≡ p) ⊎ (v + size (sub t (p - 1)) + 1 ≡ p)
  pub inside : get_or (kinds_of t) p 0 ≡ 1
  pub deeper : depth t v ≡ depth t p + 1

pub up : (t : Tree) (v : ℕ) → v + 1 < size t → Up t v (parent t v)
up (leaf a) v h = absurd (omega arith)
up (node l a r) v h = go (place l a r v (omega arith)) (up l v) (λ j. up r j)
  where
    t : Tree
    t = node l a r

    n : ℕ
    n = size l + size r

    go : Place l r v → (v + 1 < size l → Up l v (parent l v)) → ((j : ℕ) → j + 1 < size r → Up r j (parent r j)) → Up t v (parent t v)
    go (in_l p) il ir =
        elim (ℕ_discrete (v + 1) (size l)) [
          | yes e ↦ subst (Up t v) (sym (parent-left-root l a r v e)) (record {
            above = omega arith;
            below = omega arith;
            child = inr (rw (before-top l a r) (omega arith));
            inside = kind-top l a r n refl;
            deeper = omega (arith, depth-left l a r v p, depth-root l v e, depth-top l a r n refl);
          })
          | no e ↦
              let q : v + 1 < size l = omega arith in
              let u : Up l v (parent l v) = il q in
              let b : parent l v < size l = u.below in
              let s : sub t (parent l v - 1) ≡ sub l (parent l v - 1) = sub-left l a r (parent l v - 1) (omega arith) in
              subst (Up t v) (sym (parent-left l a r v q)) (record {
                above = u.above;
                below = omega arith;
                child = rw s u.child;
                inside = kind-left l a r (parent l v) b ∙ u.inside;
                deeper = omega (arith, depth-left l a r v p, u.deeper, depth-left l a r (parent l v) b);
              })
        ]
    go (in_r j q p) il ir =
        elim (ℕ_discrete (j + 1) (size r)) [
          | yes e ↦ subst (Up t v) (sym (parent-right-root l a r v j q e)) (record {
            above = omega arith;
            below = omega arith;
            child = inl (omega arith);
            inside = kind-top l a r n refl;
            deeper = omega (arith, depth-right l a r v j q p, depth-root r j e, depth-top l a r n refl);
          })
          | no e ↦
              let k : j + 1 < size r = omega arith in
              let u : Up r j (parent r j) = ir j k in
              let b : parent r j < size r = u.below in
              let s : sub t (size l + parent r j - 1) ≡ sub r (parent r j - 1) = sub-right l a r (size l + parent r j - 1)
              (parent r j - 1) (omega (arith, u.above)) (omega arith) in
              subst (Up t v) (sym (parent-right l a r v j q k)) (record {
                above = omega (arith, u.above);
                below = omega arith;
                child = elim u.child [ inl c ↦ inl (omega arith) | inr c ↦ inr (rw s (omega arith)) ];
                inside = kind-right l a r (size l + parent r j) (parent r j) refl b ∙ u.inside;
                deeper = omega (arith, depth-right l a r v j q p, u.deeper, depth-right l a r (size l + parent r j) (parent r j) refl b);
              })
        ]
    go (top q) il ir = absurd (omega arith)

-- each node above v has a greater number
pub depth_small : (t : Tree) (v : ℕ) → v < size t → depth t v + v < size t
unfolding depth
depth_small (leaf a) v h = omega arith
depth_small (node l a r) v h = go (place l a r v h) (depth_small l v) (λ j. depth_small r j)
  where
    go : Place l r v → (v < size l → depth l v + v < size l) → ((j : ℕ) → j < size r → depth r j + j < size r) → depth (node l a r) v + v < size l + size r + 1
    go (in_l p) il ir = omega (arith, depth-left l a r v p, il p)
    go (in_r j q p) il ir = omega (arith, depth-right l a r v j q p, ir j p)
    go (top q) il ir = omega (arith, depth-top l a r v q)
