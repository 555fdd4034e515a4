-- Labels and kinds of an image, by its items, and read from the right.
--     label-item, kind-item   node j's label and kind are those of item j
--     read_back-siblings       the nodes of an image, read from the right, are what the loop going home expects
--       (from_right)
use Prim.Native.Nat.{ℕ, zero, suc, ◌+◌, ◌-◌, ◌<◌}
use mathlib.Core.Path.{◌≡◌, refl, sym, ap, ap₂, ◌∙◌}
use mathlib.Core.List.{List, [], ◌∷◌, ◌++◌, append_assoc, append-nil}
use mathlib.Core.Option.{Option, none, some}
use native.Mathlib.Decide.{dec_lt}
use native.Mathlib.Omega.{arith}
use lib.ListN.{length, get_or, get_or-append}
use lib.Seq.{get_or-append-add}
use Rattle.list_laws.proofs.AppendLaws.{at_left, at-middle, at_right}
use Rattle.trees.specs.Tree.{size, kinds_of, labels_of}
use Rattle.trees.proofs.NodeLaws.{length-kinds, length-labels}
use Rattle.planner.specs.Siblings.{Siblings, empty, sibling, count, pre_labels, image, items, item_label, item_kind}
use Rattle.planner.specs.inner.HomeMachine.{node_item, read_back}
use Rattle.planner.proofs.PreorderLaws.{length-pre_labels}
use Rattle.planner.proofs.ImageLaws.{length-items}
use Rattle.planner.proofs.HomeMachine.{from_right}

-- place j of three runs in a row, the last of one element
data Where (n m i : ℕ) : Type 0 where
  in_left : i < n → Where n m i
  in_right : (j : ℕ) → i ≡ n + j → j < m → Where n m i
  at_top : i ≡ n + m → Where n m i

where-is : (n m j : ℕ) → j < n + m + 1 → Where n m j
where-is n m j h = elim (dec_lt j n) [
  | yes l ↦ in_left l
  | no l ↦ elim (dec_lt j (n + m)) [
    | yes k ↦ in_right (j - n) (omega arith) (omega arith)
    | no k ↦ at_top (omega arith)
  ]
]

-- the labels of the planner's nodes, from number v on, are g's
abbrev Labelled : (ℕ → ℕ) → Siblings → ℕ → Type 0
Labelled g f v = (i : ℕ) → i < count f → g (v + i) ≡ get_or (pre_labels f) i 0

module _ (g : ℕ → ℕ) (a : ℕ) (c r : Siblings) (v : ℕ) (H : Labelled g (sibling a c r) v) where
  labelled-children : Labelled g c (v + 1)
  labelled-children i h =
      let e : v + 1 + i ≡ v + suc i = omega arith in
      ap g e ∙ H (suc i) (omega arith)
      ∙ get_or-append (pre_labels c) (pre_labels r) 0 i (omega (arith, length-pre_labels c))

  labelled-rest : Labelled g r (v + 1 + count c)
  labelled-rest i h =
      let e : v + 1 + count c + i ≡ v + suc (length (pre_labels c) + i) = omega (arith, length-pre_labels c) in
      ap g e ∙ H (suc (length (pre_labels c) + i)) (omega (arith, length-pre_labels c))
      ∙ get_or-append-add (pre_labels c) (pre_labels r) i 0

pub label-item : (f : Siblings) (v : ℕ) (g : ℕ → ℕ) → Labelled g f v → (j : ℕ) → j < size (image f)
    → get_or (labels_of (image f)) j 0 ≡ item_label g (get_or (items f v) j none)
label-item empty v g H zero h = refl
label-item empty v g H (suc j) h = absurd (omega arith)
label-item (sibling a c r) v g H j h =
    go j (where-is (size (image c)) (size (image r)) j h) (label-item c (v + 1) g (labelled-children g a c r v H))
    (label-item r (v + 1 + count c) g (labelled-rest g a c r v H))
  where
    go : (j : ℕ) → Where (size (image c)) (size (image r)) j
        → ((i : ℕ) → i < size (image c) → get_or (labels_of (image c)) i 0 ≡ item_label g (get_or (items c (v + 1)) i none))
        → ((i : ℕ) → i < size (image r)
        → get_or (labels_of (image r)) i 0 ≡ item_label g (get_or (items r (v + 1 + count c)) i none))
        → get_or (labels_of (image (sibling a c r))) j 0 ≡ item_label g (get_or (items (sibling a c r) v) j none)
    go j (in_left l) Ic Ir =
        at_left 0 (labels_of (image c)) (labels_of (image r)) (a ∷ []) j (omega (arith, length-labels (image c)))
        ∙ Ic j l
        ∙ ap (item_label g) (sym
        (at_left none (items c (v + 1)) (items r (v + 1 + count c)) (some v ∷ []) j
        (omega (arith, length-items c (v + 1)))))
    go i (in_right j e l) Ic Ir =
        at-middle 0 (labels_of (image c)) (labels_of (image r)) (a ∷ []) i j (omega (arith, length-labels (image c)))
        (omega (arith, length-labels (image r)))
        ∙ Ir j l
        ∙ ap (item_label g) (sym
        (at-middle none (items c (v + 1)) (items r (v + 1 + count c)) (some v ∷ []) i j
        (omega (arith, length-items c (v + 1))) (omega (arith, length-items r (v + 1 + count c)))))
    go i (at_top e) Ic Ir =
        let z : v + 0 ≡ v = omega arith in
        at_right 0 (labels_of (image c)) (labels_of (image r)) (a ∷ []) i 0
        (omega (arith, length-labels (image c), length-labels (image r)))
        ∙ sym (ap g (sym z) ∙ H 0 (omega arith))
        ∙ ap (item_label g) (sym
        (at_right none (items c (v + 1)) (items r (v + 1 + count c)) (some v ∷ []) i 0
        (omega (arith, length-items c (v + 1), length-items r (v + 1 + count c)))))

pub kind-item : (f : Siblings) (v j : ℕ) → j < size (image f)
    → get_or (kinds_of (image f)) j 0 ≡ item_kind (get_or (items f v) j none)
kind-item empty v zero h = refl
kind-item empty v (suc j) h = absurd (omega arith)
kind-item (sibling a c r) v j h =
    go j (where-is (size (image c)) (size (image r)) j h) (kind-item c (v + 1)) (kind-item r (v + 1 + count c))
  where
    go : (j : ℕ) → Where (size (image c)) (size (image r)) j
        → ((i : ℕ) → i < size (image c) → get_or (kinds_of (image c)) i 0 ≡ item_kind (get_or (items c (v + 1)) i none))
        → ((i : ℕ) → i < size (image r)
        → get_or (kinds_of (image r)) i 0 ≡ item_kind (get_or (items r (v + 1 + count c)) i none))
        → get_or (kinds_of (image (sibling a c r))) j 0 ≡ item_kind (get_or (items (sibling a c r) v) j none)
    go j (in_left l) Ic Ir =
        at_left 0 (kinds_of (image c)) (kinds_of (image r)) (1 ∷ []) j (omega (arith, length-kinds (image c)))
        ∙ Ic j l
        ∙ ap item_kind (sym (at_left none (items c (v + 1)) (items r (v + 1 + count c)) (some v ∷ []) j
        (omega (arith, length-items c (v + 1)))))
    go i (in_right j e l) Ic Ir =
        at-middle 0 (kinds_of (image c)) (kinds_of (image r)) (1 ∷ []) i j (omega (arith, length-kinds (image c)))
        (omega (arith, length-kinds (image r)))
        ∙ Ir j l
        ∙ ap item_kind (sym (at-middle none (items c (v + 1)) (items r (v + 1 + count c)) (some v ∷ []) i j
        (omega (arith, length-items c (v + 1))) (omega (arith, length-items r (v + 1 + count c)))))
    go i (at_top e) Ic Ir =
        at_right 0 (kinds_of (image c)) (kinds_of (image r)) (1 ∷ []) i 0
        (omega (arith, length-kinds (image c), length-kinds (image r)))
        ∙ ap item_kind (sym (at_right none (items c (v + 1)) (items r (v + 1 + count c)) (some v ∷ []) i 0
        (omega (arith, length-items c (v + 1), length-items r (v + 1 + count c)))))

-- ---- from the right

-- the lists ls and ks hold the image of f from place lo on
pub record ImageAt (f : Siblings) (ls ks : List ℕ) (lo : ℕ) : Type 0 where
  pub labels : (j : ℕ) → j < size (image f) → get_or ls (lo + j) 0 ≡ get_or (labels_of (image f)) j 0
  pub kinds : (j : ℕ) → j < size (image f) → get_or ks (lo + j) 0 ≡ get_or (kinds_of (image f)) j 0

module _ (a : ℕ) (c r : Siblings) (ls ks : List ℕ) (lo : ℕ) (H : ImageAt (sibling a c r) ls ks lo) where
  image-children : ImageAt c ls ks lo
  image-children = record {
    labels = λ j h. H.labels j (omega arith)
        ∙ at_left 0 (labels_of (image c)) (labels_of (image r)) (a ∷ []) j (omega (arith, length-labels (image c)));
    kinds = λ j h. H.kinds j (omega arith)
        ∙ at_left 0 (kinds_of (image c)) (kinds_of (image r)) (1 ∷ []) j (omega (arith, length-kinds (image c)));
  }

  image-rest : ImageAt r ls ks (lo + size (image c))
  image-rest = record {
    labels = λ j h. (let e : lo + size (image c) + j ≡ lo + (size (image c) + j) = omega arith in
        ap (λ (i : ℕ). get_or ls i 0) e ∙ H.labels (size (image c) + j) (omega arith)
        ∙ at-middle 0 (labels_of (image c)) (labels_of (image r)) (a ∷ []) (size (image c) + j) j
        (omega (arith, length-labels (image c))) (omega (arith, length-labels (image r))));
    kinds = λ j h. (let e : lo + size (image c) + j ≡ lo + (size (image c) + j) = omega arith in
        ap (λ (i : ℕ). get_or ks i 0) e ∙ H.kinds (size (image c) + j) (omega arith)
        ∙ at-middle 0 (kinds_of (image c)) (kinds_of (image r)) (1 ∷ []) (size (image c) + j) j
        (omega (arith, length-kinds (image c))) (omega (arith, length-kinds (image r))));
  }

  image-top : node_item (get_or ls (lo + size (image c) + size (image r)) 0)
      (get_or ks (lo + size (image c) + size (image r)) 0) ≡ some a
  image-top =
      let e : lo + size (image c) + size (image r) ≡ lo + (size (image c) + size (image r)) = omega arith in
      let l : get_or ls (lo + size (image c) + size (image r)) 0 ≡ a =
      ap (λ (i : ℕ). get_or ls i 0) e ∙ H.labels (size (image c) + size (image r)) (omega arith)
      ∙ at_right 0 (labels_of (image c)) (labels_of (image r)) (a ∷ []) (size (image c) + size (image r)) 0
      (omega (arith, length-labels (image c), length-labels (image r))) in
      let k : get_or ks (lo + size (image c) + size (image r)) 0 ≡ 1 =
      ap (λ (i : ℕ). get_or ks i 0) e ∙ H.kinds (size (image c) + size (image r)) (omega arith)
      ∙ at_right 0 (kinds_of (image c)) (kinds_of (image r)) (1 ∷ []) (size (image c) + size (image r)) 0
      (omega (arith, length-kinds (image c), length-kinds (image r))) in
      ap₂ node_item l k

pub read_back-siblings : (f : Siblings) (ls ks : List ℕ) (lo : ℕ) → ImageAt f ls ks lo
    → read_back ls ks (lo + size (image f)) ≡ from_right f ++ read_back ls ks lo
read_back-siblings empty ls ks lo H =
    let e : lo + 1 ≡ suc lo = omega arith in
    let z : lo + 0 ≡ lo = omega arith in
    let k : get_or ks lo 0 ≡ 0 = ap (λ (i : ℕ). get_or ks i 0) (sym z) ∙ H.kinds 0 (omega arith) in
    ap (read_back ls ks) e ∙ ap (λ (n : ℕ). node_item (get_or ls lo 0) n ∷ read_back ls ks lo) k
read_back-siblings (sibling a c r) ls ks lo H =
    let e : lo + (size (image c) + size (image r) + 1) ≡ suc (lo + size (image c) + size (image r)) = omega arith in
    ap (read_back ls ks) e
    ∙ ap₂ (λ (x : Option ℕ) (l : List (Option ℕ)). x ∷ l) (image-top a c r ls ks lo H)
    (read_back-siblings r ls ks (lo + size (image c)) (image-rest a c r ls ks lo H)
    ∙ ap (λ (l : List (Option ℕ)). from_right r ++ l) (read_back-siblings c ls ks lo (image-children a c r ls ks lo H))
    ∙ sym (append_assoc (from_right r) (from_right c) (read_back ls ks lo)))

-- a whole image
pub read_back-image : (f : Siblings) → read_back (labels_of (image f)) (kinds_of (image f)) (size (image f)) ≡ from_right f
read_back-image f =
    let e : size (image f) ≡ 0 + size (image f) = omega arith in
    ap (read_back (labels_of (image f)) (kinds_of (image f))) e
    ∙ read_back-siblings f (labels_of (image f)) (kinds_of (image f)) 0 (record {
      labels = λ j h. (let z : 0 + j ≡ j = omega arith in ap (λ (i : ℕ). get_or (labels_of (image f)) i 0) z);
      kinds = λ j h. (let z : 0 + j ≡ j = omega arith in ap (λ (i : ℕ). get_or (kinds_of (image f)) i 0) z);
    })
    ∙ append-nil (from_right f)
