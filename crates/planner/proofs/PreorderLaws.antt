-- Pre-order and back.
--     all_below-append     every element of two lists in a row is below n
--     pending-siblings    the counts of a list of siblings are read as that list
--     siblings-of         counts that make one tree are a tree's counts; siblings_of gives it
--     siblings-unique     and no other
use Prim.Native.Nat.{ℕ, zero, suc, ◌+◌, ◌≤◌}
use mathlib.Core.Path.{◌≡◌, refl, sym, ap, ap₂, ◌∙◌}
use mathlib.Core.Bool.{Bool, ◌&&◌}
use mathlib.Core.List.{List, [], ◌∷◌, ◌++◌, append_assoc, append-nil}
use mathlib.Core.Option.{some, some-injective}
use native.Mathlib.Omega.{arith}
use lib.Dec.{ltb}
use lib.ListN.{length, length-append}
use Rattle.list_laws.specs.Tests.{all_below}
use Rattle.list_laws.proofs.BoolLaws.{and_assoc}
use Rattle.planner.specs.Siblings.{Siblings, empty, sibling, count, width, pre_labels, pre_counts}
use Rattle.planner.specs.File.{pending, front, rest, siblings_of}

pub all_below-append : (n : ℕ) (l k : List ℕ) → all_below n (l ++ k) ≡ (all_below n l && all_below n k)
unfolding all_below
all_below-append n [] k = refl
all_below-append n (x ∷ l) k =
    ap (λ (b : Bool). ltb x n && b) (all_below-append n l k) ∙ sym (and_assoc (ltb x n) (all_below n l) (all_below n k))

pub length-pre_labels : (f : Siblings) → length (pre_labels f) ≡ count f
length-pre_labels empty = refl
length-pre_labels (sibling a c r) = simp (length-append, length-pre_labels c, length-pre_labels r) (omega arith)

pub length-pre_counts : (f : Siblings) → length (pre_counts f) ≡ count f
length-pre_counts empty = refl
length-pre_counts (sibling a c r) = simp (length-append, length-pre_counts c, length-pre_counts r) (omega arith)

pub pending-siblings : (f : Siblings) (cs : List ℕ) (w : ℕ) → pending (pre_counts f ++ cs) (width f + w) ≡ pending cs w
pending-siblings empty cs w = let e : 0 + w ≡ w = omega arith in ap (pending cs) e
pending-siblings (sibling a c r) cs w =
    let e : suc (width r) + w ≡ suc (width r + w) = omega arith in
    let i : width c ∷ (pre_counts c ++ pre_counts r) ++ cs ≡ width c ∷ (pre_counts c ++ (pre_counts r ++ cs)) =
    ap (λ (l : List ℕ). width c ∷ l) (append_assoc (pre_counts c) (pre_counts r) cs) in
    ap₂ pending i e ∙ pending-siblings c (pre_counts r ++ cs) (width r + w) ∙ pending-siblings r cs w

-- ---- a list of siblings in two

front-rest-counts : (n : ℕ) (f : Siblings) → pre_counts (front n f) ++ pre_counts (rest n f) ≡ pre_counts f
front-rest-counts zero f = refl
front-rest-counts (suc n) empty = refl
front-rest-counts (suc n) (sibling a c r) =
    ap (λ (l : List ℕ). width c ∷ l)
    (append_assoc (pre_counts c) (pre_counts (front n r)) (pre_counts (rest n r))
    ∙ ap (λ (l : List ℕ). pre_counts c ++ l) (front-rest-counts n r))

front-rest-labels : (n : ℕ) (f : Siblings) → pre_labels (front n f) ++ pre_labels (rest n f) ≡ pre_labels f
front-rest-labels zero f = refl
front-rest-labels (suc n) empty = refl
front-rest-labels (suc n) (sibling a c r) =
    ap (λ (l : List ℕ). a ∷ l)
    (append_assoc (pre_labels c) (pre_labels (front n r)) (pre_labels (rest n r))
    ∙ ap (λ (l : List ℕ). pre_labels c ++ l) (front-rest-labels n r))

width-front : (n : ℕ) (f : Siblings) → n ≤ width f → width (front n f) ≡ n
width-front zero f h = refl
width-front (suc n) empty h = absurd (omega arith)
width-front (suc n) (sibling a c r) h = ap suc (width-front n r (omega arith))

width-rest : (n : ℕ) (f : Siblings) → n ≤ width f → n + width (rest n f) ≡ width f
width-rest zero f h = omega arith
width-rest (suc n) empty h = absurd (omega arith)
width-rest (suc n) (sibling a c r) h = omega (arith, width-rest n r (omega arith))

-- ---- from counts and labels to siblings

pub record Read (cs ls : List ℕ) (w : ℕ) : Type 0 where
  pub counts : pre_counts (siblings_of cs ls) ≡ cs
  pub labels : pre_labels (siblings_of cs ls) ≡ ls
  pub wide : width (siblings_of cs ls) ≡ w

pub siblings-of : (cs ls : List ℕ) (w : ℕ) → length ls ≡ length cs → pending cs w ≡ some 0 → Read cs ls w
siblings-of [] [] w h e = record { counts = refl; labels = refl; wide = sym (some-injective _ _ e) }
siblings-of [] (a ∷ ls) w h e = absurd (omega arith)
siblings-of (c ∷ cs) [] w h e = absurd (omega arith)
siblings-of (c ∷ cs) (a ∷ ls) zero h e = let z : ◌≡◌ {A = ℕ} 0 1 = cc in absurd (omega arith)
siblings-of (c ∷ cs) (a ∷ ls) (suc w) h e =
    let R : Read cs ls (c + w) = siblings-of cs ls (c + w) (omega arith) e in
    let l : c ≤ width (siblings_of cs ls) = omega (arith, R.wide) in
    record {
      counts = ap₂ (λ (n : ℕ) (l : List ℕ). n ∷ l) (width-front c (siblings_of cs ls) l)
          (front-rest-counts c (siblings_of cs ls) ∙ R.counts);
      labels = ap (λ (l : List ℕ). a ∷ l) (front-rest-labels c (siblings_of cs ls) ∙ R.labels);
      wide = omega (arith, width-rest c (siblings_of cs ls) l, R.wide);
    }

-- two lists of siblings, one after the other
abbrev joined : Siblings → Siblings → Siblings
joined empty g = g
joined (sibling a c r) g = sibling a c (joined r g)

front-joined : (f g : Siblings) → front (width f) (joined f g) ≡ f
front-joined empty g = refl
front-joined (sibling a c r) g = ap (sibling a c) (front-joined r g)

rest-joined : (f g : Siblings) → rest (width f) (joined f g) ≡ g
rest-joined empty g = refl
rest-joined (sibling a c r) g = rest-joined r g

siblings-append : (f : Siblings) (cs ls : List ℕ)
    → siblings_of (pre_counts f ++ cs) (pre_labels f ++ ls) ≡ joined f (siblings_of cs ls)
siblings-append empty cs ls = refl
siblings-append (sibling a c r) cs ls =
    let e : siblings_of ((pre_counts c ++ pre_counts r) ++ cs) ((pre_labels c ++ pre_labels r) ++ ls)
    ≡ joined c (joined r (siblings_of cs ls)) =
    ap₂ siblings_of (append_assoc (pre_counts c) (pre_counts r) cs) (append_assoc (pre_labels c) (pre_labels r) ls)
    ∙ siblings-append c (pre_counts r ++ cs) (pre_labels r ++ ls)
    ∙ ap (joined c) (siblings-append r cs ls) in
    ap (λ (g : Siblings). sibling a (front (width c) g) (rest (width c) g)) e
    ∙ ap₂ (sibling a) (front-joined c (joined r (siblings_of cs ls))) (rest-joined c (joined r (siblings_of cs ls)))

joined-empty : (f : Siblings) → joined f empty ≡ f
joined-empty empty = refl
joined-empty (sibling a c r) = ap (sibling a c) (joined-empty r)

pub siblings-unique : (f : Siblings) → siblings_of (pre_counts f) (pre_labels f) ≡ f
siblings-unique f =
    ap₂ siblings_of (sym (append-nil (pre_counts f))) (sym (append-nil (pre_labels f))) ∙ siblings-append f [] []
    ∙ joined-empty f
