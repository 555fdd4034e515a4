-- The three tests of a plan that goes home are what its tree says.
--     labels-tested     labels and kinds
--     runs-counts       no list of siblings has m or more
--     top-width        one tree at the top
--     tests-image      so together they are is_image
use Prim.Native.Nat.{ℕ, suc, ◌+◌, ◌-◌, ◌≤◌, ◌<◌}
use mathlib.Core.Path.{◌≡◌, refl, sym, ap, ap₂, ◌∙◌}
use mathlib.Core.Bool.{Bool, true, false, ◌&&◌}
use mathlib.Core.List.{List, [], ◌∷◌, ◌++◌, append_assoc, append-nil}
use native.Mathlib.Omega.{arith}
use lib.Dec.{eqb, leb, ltb}
use lib.ListN.{length, get_or, length-append, get_or-append}
use lib.Seq.{get_or-append-add, get_or-append_seam}
use borrow.Author.Tests.{eqb-true, ltb-true, lt-ltb, le-leb, eq-eqb}
use Rattle.trees.specs.Tree.{Tree, leaf, node, kinds_of, labels_of}
use Rattle.trees.proofs.NodeLaws.{length-kinds, length-labels, size-pos}
use Rattle.list_laws.proofs.BoolLaws.{and_both, and_left, and_right}
use Rattle.list_laws.proofs.BoolLaws.{and_assoc, and_yes}
use Rattle.list_laws.specs.Tests.{all_below}
use Rattle.planner.specs.Siblings.{Siblings, empty, sibling, width, pre_counts, image, unimage, empty_label}
use Rattle.planner.specs.File.{image_labels, is_image}
use Rattle.planner.specs.inner.ImageTests.{label_fits, labels_fit, all_runs_fit, one_top}
use Rattle.planner.proofs.PreorderLaws.{all_below-append}
use Rattle.planner.proofs.ImageLaws.{image-unimage}

-- ---- labels and kinds

labels_append : (ls ms ks js : List ℕ) → length ls ≡ length ks
    → labels_fit (ls ++ ms) (ks ++ js) ≡ (labels_fit ls ks && labels_fit ms js)
labels_append [] ms [] js h = refl
labels_append [] ms (k ∷ ks) js h = absurd (omega arith)
labels_append (a ∷ ls) ms [] js h = absurd (omega arith)
labels_append (a ∷ ls) ms (k ∷ ks) js h =
    ap (λ (b : Bool). label_fits a k && b) (labels_append ls ms ks js (omega arith))
    ∙ sym (and_assoc (label_fits a k) (labels_fit ls ks) (labels_fit ms js))

swap-last : (a b c : Bool) → (a && (b && (c && true))) ≡ (a && (c && b))
swap-last true true true = refl
swap-last true true false = refl
swap-last true false true = refl
swap-last true false false = refl
swap-last false b c = refl

pub labels-tested : (t : Tree) → labels_fit (labels_of t) (kinds_of t) ≡ image_labels t
labels-tested (leaf a) = and_yes (eqb a empty_label)
labels-tested (node l a r) =
    labels_append (labels_of l) (labels_of r ++ (a ∷ [])) (kinds_of l) (kinds_of r ++ (1 ∷ []))
    (length-labels l ∙ sym (length-kinds l))
    ∙ ap₂ (λ (x y : Bool). x && y) (labels-tested l)
    (labels_append (labels_of r) (a ∷ []) (kinds_of r) (1 ∷ []) (length-labels r ∙ sym (length-kinds r))
    ∙ ap (λ (x : Bool). x && (ltb a empty_label && true)) (labels-tested r))
    ∙ swap-last (image_labels l) (image_labels r) (ltb a empty_label)

-- ---- runs of inner nodes

-- every list of siblings in f, and every end of one, has fewer than m
abbrev few : ℕ → Siblings → Bool
few m empty = true
few m (sibling a c r) = few m c && (few m r && ltb (suc (width r)) m)

runs-in : (m : ℕ) (f : Siblings) (ks : List ℕ) (w : ℕ)
    → all_runs_fit m (kinds_of (image f) ++ ks) w ≡ (few m f && all_runs_fit m ks (width f))
runs-in m empty ks w = refl
runs-in m (sibling a c r) ks w =
    ap (λ (l : List ℕ). all_runs_fit m l w)
    (append_assoc (kinds_of (image c)) (kinds_of (image r) ++ (1 ∷ [])) ks
    ∙ ap (λ (l : List ℕ). kinds_of (image c) ++ l) (append_assoc (kinds_of (image r)) (1 ∷ []) ks))
    ∙ runs-in m c (kinds_of (image r) ++ (1 ∷ ks)) w
    ∙ ap (λ (b : Bool). few m c && b) (runs-in m r (1 ∷ ks) (width c))
    ∙ regroup (few m c) (few m r) (ltb (suc (width r)) m) (all_runs_fit m ks (suc (width r)))
  where
    regroup : (x y z u : Bool) → (x && (y && (z && u))) ≡ ((x && (y && z)) && u)
    regroup true true z u = refl
    regroup true false z u = refl
    regroup false y z u = refl

few-width : (m : ℕ) (f : Siblings) → 0 < m → few m f ≡ true → width f < m
few-width m empty h e = h
few-width m (sibling a c r) h e = ltb-true (suc (width r)) m (and_right (few m r) _ (and_right (few m c) _ e))

few-counts : (m : ℕ) (f : Siblings) → 0 < m → few m f ≡ true → all_below m (pre_counts f) ≡ true
unfolding all_below
few-counts m empty h e = refl
few-counts m (sibling a c r) h e =
    let ec : few m c ≡ true = and_left (few m c) _ e in
    let er : few m r ≡ true = and_left (few m r) _ (and_right (few m c) _ e) in
    and_both (ltb (width c) m) _ (lt-ltb (width c) m (few-width m c h ec))
    (all_below-append m (pre_counts c) (pre_counts r) ∙ and_both _ _ (few-counts m c h ec) (few-counts m r h er))

counts-few : (m : ℕ) (f : Siblings) → width f < m → all_below m (pre_counts f) ≡ true → few m f ≡ true
unfolding all_below
counts-few m empty h e = refl
counts-few m (sibling a c r) h e =
    let hc : width c < m = ltb-true (width c) m (and_left (ltb (width c) m) _ e) in
    let es : (all_below m (pre_counts c) && all_below m (pre_counts r)) ≡ true =
    sym (all_below-append m (pre_counts c) (pre_counts r)) ∙ and_right (ltb (width c) m) _ e in
    and_both (few m c) _ (counts-few m c hc (and_left (all_below m (pre_counts c)) (all_below m (pre_counts r)) es))
    (and_both (few m r) _
    (counts-few m r (omega arith) (and_right (all_below m (pre_counts c)) (all_below m (pre_counts r)) es))
    (lt-ltb (suc (width r)) m h))

runs-whole : (m : ℕ) (f : Siblings) → all_runs_fit m (kinds_of (image f)) 0 ≡ few m f
runs-whole m f = ap (λ (l : List ℕ). all_runs_fit m l 0) (sym (append-nil (kinds_of (image f)))) ∙ runs-in m f [] 0
    ∙ and_yes (few m f)

pub runs-counts : (m : ℕ) (f : Siblings) → 0 < m → all_runs_fit m (kinds_of (image f)) 0 ≡ true
    → all_below m (pre_counts f) ≡ true
runs-counts m f h e = few-counts m f h (sym (runs-whole m f) ∙ e)

pub counts-runs : (m : ℕ) (f : Siblings) → width f < m → all_below m (pre_counts f) ≡ true
    → all_runs_fit m (kinds_of (image f)) 0 ≡ true
counts-runs m f h e = runs-whole m f ∙ counts-few m f h e

-- ---- one tree at the top

-- what is before the last of three lists in a row
before_last : (xs ys : List ℕ) (z : ℕ) → 0 < length ys
    → get_or (xs ++ (ys ++ (z ∷ []))) (length (xs ++ (ys ++ (z ∷ []))) - 2) 0 ≡ get_or ys (length ys - 1) 0
before_last xs ys z h =
    let l : length (xs ++ (ys ++ (z ∷ []))) ≡ length xs + (length ys + 1) = length-append xs (ys ++ (z ∷ []))
    ∙ ap (λ (n : ℕ). length xs + n) (length-append ys (z ∷ [])) in
    let e : length (xs ++ (ys ++ (z ∷ []))) - 2 ≡ length xs + (length ys - 1) = omega arith in
    ap (λ (n : ℕ). get_or (xs ++ (ys ++ (z ∷ []))) n 0) e ∙ get_or-append-add xs (ys ++ (z ∷ [])) (length ys - 1) 0
    ∙ get_or-append ys (z ∷ []) 0 (length ys - 1) (omega arith)

long : (c r : Siblings) → 2 ≤ length (kinds_of (image c) ++ (kinds_of (image r) ++ (1 ∷ [])))
long c r =
    omega (
      arith,
      length-append (kinds_of (image c)) (kinds_of (image r) ++ (1 ∷ [])),
      length-append (kinds_of (image r)) (1 ∷ []),
      length-kinds (image c),
      length-kinds (image r),
      size-pos (image c),
      size-pos (image r),
    )

last-kind : (a : ℕ) (c r : Siblings)
    → get_or (kinds_of (image (sibling a c r))) (length (kinds_of (image (sibling a c r))) - 1) 0 ≡ 1
last-kind a c r =
    let k : length (kinds_of (image c) ++ (kinds_of (image r) ++ (1 ∷ [])))
    ≡ length (kinds_of (image c)) + (length (kinds_of (image r)) + 1) =
    length-append (kinds_of (image c)) (kinds_of (image r) ++ (1 ∷ []))
    ∙ ap (λ (n : ℕ). length (kinds_of (image c)) + n) (length-append (kinds_of (image r)) (1 ∷ [])) in
    let e : length (kinds_of (image c) ++ (kinds_of (image r) ++ (1 ∷ []))) - 1
    ≡ length (kinds_of (image c)) + length (kinds_of (image r)) = omega arith in
    ap (λ (n : ℕ). get_or (kinds_of (image c) ++ (kinds_of (image r) ++ (1 ∷ []))) n 0) e
    ∙ get_or-append-add (kinds_of (image c)) (kinds_of (image r) ++ (1 ∷ [])) (length (kinds_of (image r))) 0
    ∙ get_or-append_seam (kinds_of (image r)) 1 [] 0

pub top-width : (f : Siblings) → one_top (kinds_of (image f)) ≡ true → width f ≡ 1
unfolding one_top
top-width empty e = let z : ◌≡◌ {A = ℕ} 0 1 = cc in absurd (omega arith)
top-width (sibling a c empty) e = refl
top-width (sibling a c (sibling b d q)) e =
    let g : get_or (kinds_of (image (sibling a c (sibling b d q))))
    (length (kinds_of (image (sibling a c (sibling b d q)))) - 2) 0 ≡ 1 =
    before_last (kinds_of (image c)) (kinds_of (image (sibling b d q))) 1 (omega (arith, long d q)) ∙ last-kind b d q in
    absurd (omega (
      arith,
      g,
      eqb-true (get_or (kinds_of (image (sibling a c (sibling b d q))))
          (length (kinds_of (image (sibling a c (sibling b d q)))) - 2) 0) 0
          (and_right (leb 2 (length (kinds_of (image (sibling a c (sibling b d q)))))) _ e),
    ))

pub width-top : (f : Siblings) → width f ≡ 1 → one_top (kinds_of (image f)) ≡ true
unfolding one_top
width-top empty e = absurd (omega arith)
width-top (sibling a c empty) e =
    and_both (leb 2 (length (kinds_of (image (sibling a c empty))))) _
    (le-leb 2 (length (kinds_of (image (sibling a c empty)))) (long c empty))
    (eq-eqb _ 0 (before_last (kinds_of (image c)) (0 ∷ []) 1 (omega arith)))
width-top (sibling a c (sibling b d q)) e = absurd (omega arith)

-- ---- together

pub tests-image : (t : Tree) → labels_fit (labels_of t) (kinds_of t) ≡ true → all_runs_fit 256 (kinds_of t) 0 ≡ true
    → one_top (kinds_of t) ≡ true → is_image t ≡ true
unfolding is_image
tests-image t x y z =
    let l : image_labels t ≡ true = sym (labels-tested t) ∙ x in
    let e : image (unimage t) ≡ t = image-unimage t l in
    and_both (image_labels t) _ l
    (and_both (eqb (width (unimage t)) 1) _
    (eq-eqb (width (unimage t)) 1 (top-width (unimage t) (ap (λ (u : Tree). one_top (kinds_of u)) e ∙ z)))
    (runs-counts 256 (unimage t) (omega arith) (ap (λ (u : Tree). all_runs_fit 256 (kinds_of u) 0) e ∙ y)))

pub image-tests : (t : Tree) → is_image t ≡ true
    → (labels_fit (labels_of t) (kinds_of t) ≡ true) × (all_runs_fit 256 (kinds_of t) 0 ≡ true) × (one_top (kinds_of t) ≡ true)
unfolding is_image
image-tests t i =
    let l : image_labels t ≡ true = and_left (image_labels t) _ i in
    let e : image (unimage t) ≡ t = image-unimage t l in
    let r : (eqb (width (unimage t)) 1 && all_below 256 (pre_counts (unimage t))) ≡ true =
    and_right (image_labels t) _ i in
    let w : width (unimage t) ≡ 1 = eqb-true (width (unimage t)) 1 (and_left (eqb (width (unimage t)) 1) _ r) in (
      labels-tested t ∙ l,
      ap (λ (u : Tree). all_runs_fit 256 (kinds_of u) 0) (sym e)
          ∙ counts-runs 256 (unimage t) (omega arith) (and_right (eqb (width (unimage t)) 1) _ r),
      ap (λ (u : Tree). one_top (kinds_of u)) (sym e) ∙ width-top (unimage t) w,
    )
