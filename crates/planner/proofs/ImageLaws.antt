-- The image: its size, its way back, and its places.
--     size-image         n nodes become 2n+1
--     unimage-image      going out and home gives the tree again
--     image-unimage      a tree with label 63 at its leaves is the image of its siblings: what goes home comes from
--       there
--     length-items       as many items as nodes
--     place-item         the place given for planner node v is where it is; item-place: and back
use Prim.Native.Nat.{ℕ, zero, suc, ◌+◌, ◌*◌, ◌-◌, ◌≤◌, ◌<◌}
use mathlib.Core.Path.{◌≡◌, refl, sym, ap, ap₂, ◌∙◌}
use mathlib.Core.Bool.{true, ◌&&◌}
use mathlib.Core.List.{[], ◌∷◌, ◌++◌}
use mathlib.Core.Option.{none, some, some-injective}
use native.Mathlib.Decide.{dec_lt}
use native.Mathlib.Omega.{arith}
use lib.Dec.{ltb}
use lib.ListN.{length, get_or, length-append, get_or-append}
use lib.Seq.{get_or-append-add}
use borrow.Author.Tests.{eqb-true}
use Rattle.list_laws.proofs.AppendLaws.{at_left, at-middle, at_right}
use Rattle.trees.specs.Tree.{Tree, leaf, node, size}
use Rattle.trees.proofs.MoveLaws.{both}
use Rattle.planner.specs.Siblings.{Siblings, empty, sibling, count, image, unimage, items, places}
use Rattle.planner.specs.Siblings.{empty_label}
use Rattle.planner.specs.File.{image_labels}

pub size-image : (f : Siblings) → size (image f) ≡ 2 * count f + 1
size-image empty = refl
size-image (sibling a c r) = omega (arith, size-image c, size-image r)

pub unimage-image : (f : Siblings) → unimage (image f) ≡ f
unimage-image empty = refl
unimage-image (sibling a c r) = ap₂ (sibling a) (unimage-image c) (unimage-image r)

pub image-unimage : (t : Tree) → image_labels t ≡ true → image (unimage t) ≡ t
image-unimage (leaf a) e = ap leaf (sym (eqb-true a empty_label e))
image-unimage (node l a r) e =
    let h = both (image_labels l) (ltb a empty_label && image_labels r) e in
    let i = both (ltb a empty_label) (image_labels r) h.1 in
    ap₂ (λ (x y : Tree). node x a y) (image-unimage l h.0) (image-unimage r i.1)

pub length-items : (f : Siblings) (v : ℕ) → length (items f v) ≡ size (image f)
length-items empty v = refl
length-items (sibling a c r) v =
    simp (length-append, length-items c (v + 1), length-items r (v + 1 + count c)) (omega arith)

pub length-places : (f : Siblings) (lo : ℕ) → length (places f lo) ≡ count f
length-places empty lo = refl
length-places (sibling a c r) lo =
    simp (length-append, length-places c lo, length-places r (lo + size (image c))) (omega arith)

-- where node v + i of f's nodes is, among the items of f that begin at lo
pub record PlaceOf (f : Siblings) (v lo i : ℕ) : Type 0 where
  pub low : lo ≤ get_or (places f lo) i 0
  pub high : get_or (places f lo) i 0 < lo + size (image f)
  pub item : get_or (items f v) (get_or (places f lo) i 0 - lo) none ≡ some (v + i)

pub place-item : (f : Siblings) (v lo i : ℕ) → i < count f → PlaceOf f v lo i
place-item empty v lo i h = absurd (omega arith)
place-item (sibling a c r) v lo zero h =
    let lc : length (items c (v + 1)) ≡ size (image c) = length-items c (v + 1) in
    let lr : length (items r (v + 1 + count c)) ≡ size (image r) = length-items r (v + 1 + count c) in
    record {
      low = omega arith;
      high = omega arith;
      item = at_right none (items c (v + 1)) (items r (v + 1 + count c)) (some v ∷ []) _ 0 (omega arith)
          ∙ (let e : v ≡ v + 0 = omega arith in ap some e);
    }
place-item (sibling a c r) v lo (suc i) h = elim (dec_lt i (count c)) [
  | yes l ↦ (let S : PlaceOf c (v + 1) lo i = place-item c (v + 1) lo i l in
      let p : get_or (places c lo ++ places r (lo + size (image c))) i 0 ≡ get_or (places c lo) i 0 =
      get_or-append (places c lo) (places r (lo + size (image c))) 0 i (omega (arith, length-places c lo)) in
      record {
        low = rw p S.low;
        high = rw p (omega (arith, S.high));
        item = rw p
            (at_left none (items c (v + 1)) (items r (v + 1 + count c)) (some v ∷ []) _
            (omega (arith, S.low, S.high, length-items c (v + 1)))
            ∙ S.item ∙ (let e : v + 1 + i ≡ v + suc i = omega arith in ap some e));
      })
  | no l ↦ (let j : ℕ = i - count c in
      let S : PlaceOf r (v + 1 + count c) (lo + size (image c)) j =
      place-item r (v + 1 + count c) (lo + size (image c)) j (omega arith) in
      let q : i ≡ length (places c lo) + j = omega (arith, length-places c lo) in
      let p : get_or (places c lo ++ places r (lo + size (image c))) i 0 ≡ get_or (places r (lo + size (image c))) j 0 =
      ap (λ (x : ℕ). get_or (places c lo ++ places r (lo + size (image c))) x 0) q
      ∙ get_or-append-add (places c lo) (places r (lo + size (image c))) j 0 in
      record {
        low = rw p (omega (arith, S.low));
        high = rw p (omega (arith, S.high));
        item = rw p
            (at-middle none (items c (v + 1)) (items r (v + 1 + count c)) (some v ∷ []) _
            (get_or (places r (lo + size (image c))) j 0 - (lo + size (image c)))
            (omega (arith, S.low, length-items c (v + 1)))
            (omega (arith, S.low, S.high, length-items r (v + 1 + count c)))
            ∙ S.item ∙ (let e : v + 1 + count c + j ≡ v + suc i = omega arith in ap some e));
      })
]

-- the other way: an item that is planner node u is at the place given for u
pub record NodeAt (f : Siblings) (v lo x u : ℕ) : Type 0 where
  pub from : v ≤ u
  pub before : u < v + count f
  pub is : get_or (places f lo) (u - v) 0 ≡ lo + x

pub item-place : (f : Siblings) (v lo x u : ℕ) → get_or (items f v) x none ≡ some u → NodeAt f v lo x u
item-place empty v lo zero u e = let z : ◌≡◌ {A = ℕ} 0 1 = cc in absurd (omega arith)
item-place empty v lo (suc x) u e = let z : ◌≡◌ {A = ℕ} 0 1 = cc in absurd (omega arith)
item-place (sibling a c r) v lo x u e = elim (dec_lt x (length (items c (v + 1)))) [
  | yes h ↦ (let P : NodeAt c (v + 1) lo x u =
      item-place c (v + 1) lo x u
      (sym (at_left none (items c (v + 1)) (items r (v + 1 + count c)) (some v ∷ []) x h) ∙ e) in
      let i : u - v ≡ suc (u - (v + 1)) = omega (arith, P.from) in
      record {
        from = omega (arith, P.from);
        before = omega (arith, P.before);
        is = ap (λ (n : ℕ). get_or (places (sibling a c r) lo) n 0) i
            ∙ get_or-append (places c lo) (places r (lo + size (image c))) 0 (u - (v + 1))
            (omega (arith, length-places c lo, P.from, P.before))
            ∙ P.is;
      })
  | no h ↦ elim (dec_lt x (length (items c (v + 1)) + length (items r (v + 1 + count c)))) [
    | yes l ↦ (let j : ℕ = x - length (items c (v + 1)) in
        let P : NodeAt r (v + 1 + count c) (lo + size (image c)) j u =
        item-place r (v + 1 + count c) (lo + size (image c)) j u
        (sym (at-middle none (items c (v + 1)) (items r (v + 1 + count c)) (some v ∷ []) x j (omega arith)
        (omega arith)) ∙ e) in
        let i : u - v ≡ suc (length (places c lo) + (u - (v + 1 + count c))) =
        omega (arith, P.from, length-places c lo) in
        record {
          from = omega (arith, P.from);
          before = omega (arith, P.before);
          is = ap (λ (n : ℕ). get_or (places (sibling a c r) lo) n 0) i
              ∙ get_or-append-add (places c lo) (places r (lo + size (image c))) (u - (v + 1 + count c)) 0
              ∙ P.is
              ∙ omega (arith, length-items c (v + 1));
        })
    | no l ↦ last (x - (length (items c (v + 1)) + length (items r (v + 1 + count c)))) refl (omega arith)
        (sym (at_right none (items c (v + 1)) (items r (v + 1 + count c)) (some v ∷ []) x
        (x - (length (items c (v + 1)) + length (items r (v + 1 + count c)))) (omega arith)) ∙ e)
  ]
]
  where
    last : (y : ℕ) → x - (length (items c (v + 1)) + length (items r (v + 1 + count c))) ≡ y
        → length (items c (v + 1)) + length (items r (v + 1 + count c)) ≤ x → get_or (some v ∷ []) y none ≡ some u
        → NodeAt (sibling a c r) v lo x u
    last zero q k w =
        let f : v ≡ u = some-injective _ _ w in
        let i : u - v ≡ 0 = omega arith in
        record {
          from = omega arith;
          before = omega arith;
          is = ap (λ (n : ℕ). get_or (places (sibling a c r) lo) n 0) i
              ∙ omega (arith, length-items c (v + 1), length-items r (v + 1 + count c));
        }
    last (suc y) q k w = let z : ◌≡◌ {A = ℕ} 0 1 = cc in absurd (omega arith)
