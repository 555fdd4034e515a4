-- One iteration, and the end, of the loop that writes the nodes.
--     Laying, laying-iteration, laying-end     the nodes up to v are at their places
--     place_inside                                           a place is a node of the plan
use Prim.Native.Nat.{ℕ, ◌+◌, ◌-◌, ◌*◌, ◌≤◌, ◌<◌}
use mathlib.Core.Path.{◌≡◌, refl, sym, ap, ◌∙◌}
use mathlib.Core.Bool.{Bool, cond}
use mathlib.Core.List.{List}
use mathlib.Core.Option.{Option, none, some}
use native.Mathlib.Decide.{dec_lt, ℕ_discrete}
use native.Mathlib.Omega.{arith}
use lib.Dec.{ltb}
use lib.ListN.{length, get_or, set, length-set}
use lib.Seq.{get_or-set_same, get_or-set_other}
use borrow.Author.Tests.{lt-ltb, le-ltb}
use Rattle.planner.specs.Siblings.{Siblings, count, pre_labels, items, item_label, item_kind, places, empty_label}
use Rattle.planner.proofs.ImageLaws.{PlaceOf, place-item, NodeAt, item-place}
use Rattle.planner.proofs.ItemLaws.{label-item, kind-item}
use Rattle.planner.proofs.PreorderLaws.{length-pre_labels}
use Rattle.planner.specs.out.inner.Laid.{Nodes, LayArgs, Laid}

-- ---- the nodes

-- the labels and kinds of the nodes below v; a leaf's for the others
abbrev label_below : ℕ → List ℕ → ℕ → ℕ
label_below v ls u = cond (ltb u v) (get_or ls u 0) empty_label

abbrev kind_below : ℕ → Option ℕ → ℕ
kind_below v none = 0
kind_below v (some u) = cond (ltb u v) 1 0

below_next : (u v : ℕ) → (u ≡ v → ⊥) → ltb u v ≡ ltb u (v + 1)
below_next u v h = elim (dec_lt u v) [
  | yes l ↦ lt-ltb u v l ∙ sym (lt-ltb u (v + 1) (omega arith))
  | no l ↦ le-ltb u v (omega arith) ∙ sym (le-ltb u (v + 1) (omega arith))
]

label-other : (ls : List ℕ) (v : ℕ) (x : Option ℕ) → (x ≡ some v → ⊥)
    → item_label (label_below v ls) x ≡ item_label (label_below (v + 1) ls) x
label-other ls v none h = refl
label-other ls v (some u) h = ap (λ (b : Bool). cond b (get_or ls u 0) empty_label) (below_next u v (λ e. h (ap some e)))

kind-other : (v : ℕ) (x : Option ℕ) → (x ≡ some v → ⊥) → kind_below v x ≡ kind_below (v + 1) x
kind-other v none h = refl
kind-other v (some u) h = ap (λ (b : Bool). cond b 1 0) (below_next u v (λ e. h (ap some e)))

label-all : (ls : List ℕ) (n : ℕ) (x : Option ℕ) → ((u : ℕ) → x ≡ some u → u < n)
    → item_label (label_below n ls) x ≡ item_label (λ (u : ℕ). get_or ls u 0) x
label-all ls n none h = refl
label-all ls n (some u) h = rw (lt-ltb u n (h u refl))

kind-all : (n : ℕ) (x : Option ℕ) → ((u : ℕ) → x ≡ some u → u < n) → kind_below n x ≡ item_kind x
kind-all n none h = refl
kind-all n (some u) h = rw (lt-ltb u n (h u refl))

pub record Laying (f : Siblings) (ls : List ℕ) (n : ℕ) (p q : List ℕ) (v : ℕ) : Type 0 where
  pub label : (j : ℕ) → j < n → get_or q (12 + j) 0 ≡ item_label (label_below v ls) (get_or (items f 0) j none)
  pub kind : (j : ℕ) → j < n → get_or q (12 + n + j) 0 ≡ kind_below v (get_or (items f 0) j none)
  pub head : (j : ℕ) → j < 12 → get_or q j 0 ≡ get_or p j 0
  pub excess : (j : ℕ) → 12 + 2 * n ≤ j → get_or q j 0 ≡ get_or p j 0
  pub same : length q ≡ length p

pub length-labels-is : (f : Siblings) (ls ps : List ℕ) → Nodes f ls ps → length ls ≡ count f
length-labels-is f ls ps N = ap length (sym N.labels) ∙ length-pre_labels f

module _ (f : Siblings) (ls ps p : List ℕ) (n : ℕ) (A : LayArgs f ls ps p n) where
  module _ (v : ℕ) (h : v < length ls) where
    in_tree : v < count f
    in_tree = omega (arith, length-labels-is f ls ps A.nodes)

    stands : PlaceOf f 0 0 v
    stands = place-item f 0 0 v in_tree

    pub place_inside : get_or ps v 0 < n
    place_inside = omega (arith, stands.high, A.nodes.places_are v in_tree, A.size_is)

    item-there : get_or (items f 0) (get_or ps v 0) none ≡ some v
    item-there =
        let e : get_or ps v 0 ≡ get_or (places f 0) v 0 - 0 = omega (arith, A.nodes.places_are v in_tree) in
        let z : 0 + v ≡ v = omega arith in
        ap (λ (j : ℕ). get_or (items f 0) j none) e ∙ stands.item ∙ ap some z

    only-there : (j : ℕ) → (j ≡ get_or ps v 0 → ⊥) → get_or (items f 0) j none ≡ some v → ⊥
    only-there j ne e =
        let N : NodeAt f 0 0 j v = item-place f 0 0 j v e in
        let z : v - 0 ≡ v = omega arith in
        let g : get_or (places f 0) v 0 ≡ 0 + j = ap (λ (i : ℕ). get_or (places f 0) i 0) (sym z) ∙ N.is in
        ne (omega (arith, g, A.nodes.places_are v in_tree))

    module _ (q : List ℕ) (L : Laying f ls n p q v) where
      abbrev two : List ℕ
      two = set (set q (12 + get_or ps v 0) (get_or ls v 0)) (12 + n + get_or ps v 0) 1

      other : (j : ℕ) → (j ≡ 12 + get_or ps v 0 → ⊥) → (j ≡ 12 + n + get_or ps v 0 → ⊥) → get_or two j 0 ≡ get_or q j 0
      other j a b =
          get_or-set_other (set q (12 + get_or ps v 0) (get_or ls v 0)) (12 + n + get_or ps v 0) j 1 0 b
          ∙ get_or-set_other q (12 + get_or ps v 0) j (get_or ls v 0) 0 a

      label-there : get_or two (12 + get_or ps v 0) 0 ≡ get_or ls v 0
      label-there =
          get_or-set_other (set q (12 + get_or ps v 0) (get_or ls v 0)) (12 + n + get_or ps v 0) (12 + get_or ps v 0) 1 0
          (λ e. omega (arith, place_inside))
          ∙ get_or-set_same q (12 + get_or ps v 0) (get_or ls v 0) 0 (omega (arith, place_inside, L.same, A.room))

      kind-there : get_or two (12 + n + get_or ps v 0) 0 ≡ 1
      kind-there =
          get_or-set_same (set q (12 + get_or ps v 0) (get_or ls v 0)) (12 + n + get_or ps v 0) 1 0
          (simp length-set (omega (arith, place_inside, L.same, A.room)))

      next-label : (j : ℕ) → j < n → get_or two (12 + j) 0 ≡ item_label (label_below (v + 1) ls) (get_or (items f 0) j none)
      next-label j l = elim (ℕ_discrete j (get_or ps v 0)) [
        | yes e ↦ ap (λ (i : ℕ). get_or two (12 + i) 0) e ∙ label-there
            ∙ sym (ap (λ (b : Bool). cond b (get_or ls v 0) empty_label) (lt-ltb v (v + 1) (omega arith)))
            ∙ ap (item_label (label_below (v + 1) ls)) (sym (ap (λ (i : ℕ). get_or (items f 0) i none) e ∙ item-there))
        | no e ↦ other (12 + j) (λ q. e (omega arith)) (λ q. omega arith) ∙ L.label j l
            ∙ label-other ls v (get_or (items f 0) j none) (only-there j e)
      ]

      next-kind : (j : ℕ) → j < n → get_or two (12 + n + j) 0 ≡ kind_below (v + 1) (get_or (items f 0) j none)
      next-kind j l = elim (ℕ_discrete j (get_or ps v 0)) [
        | yes e ↦ ap (λ (i : ℕ). get_or two (12 + n + i) 0) e ∙ kind-there
            ∙ sym (ap (λ (b : Bool). cond b 1 0) (lt-ltb v (v + 1) (omega arith)))
            ∙ ap (kind_below (v + 1)) (sym (ap (λ (i : ℕ). get_or (items f 0) i none) e ∙ item-there))
        | no e ↦ other (12 + n + j) (λ q. omega (arith, place_inside)) (λ q. e (omega arith)) ∙ L.kind j l
            ∙ kind-other v (get_or (items f 0) j none) (only-there j e)
      ]

      pub laying-iteration : Laying f ls n p two (v + 1)
      laying-iteration = record {
        label = next-label;
        kind = next-kind;
        head = λ j l. other j (λ q. omega arith) (λ q. omega arith) ∙ L.head j l;
        excess = λ j l. other j (λ q. omega (arith, place_inside)) (λ q. omega (arith, place_inside)) ∙ L.excess j l;
        same = length-set (set q (12 + get_or ps v 0) (get_or ls v 0)) (12 + n + get_or ps v 0) 1
            ∙ length-set q (12 + get_or ps v 0) (get_or ls v 0) ∙ L.same;
      }

  pub laying-end : (v : ℕ) (q : List ℕ) → Laying f ls n p q v → length ls ≡ v → Laid f n p q
  laying-end v q L h =
      let c : v ≡ count f = omega (arith, length-labels-is f ls ps A.nodes) in
      let small : (j u : ℕ) → get_or (items f 0) j none ≡ some u → u < v =
      λ j u e. (omega (arith, (item-place f 0 0 j u e).before)) in
      let g : ℕ → ℕ = λ u. get_or ls u 0 in
      let named : (i : ℕ) → i < count f → g (0 + i) ≡ get_or (pre_labels f) i 0 =
      λ i l. (let z : 0 + i ≡ i = omega arith in ap g z ∙ ap (λ (x : List ℕ). get_or x i 0) (sym A.nodes.labels)) in
      record {
        labels = λ j l. L.label j l ∙ label-all ls v (get_or (items f 0) j none) (small j)
            ∙ sym (label-item f 0 g named j (omega (arith, A.size_is)));
        kinds = λ j l. L.kind j l ∙ kind-all v (get_or (items f 0) j none) (small j)
            ∙ sym (kind-item f 0 j (omega (arith, A.size_is)));
        head = L.head;
        excess = L.excess;
        same = L.same;
      }
