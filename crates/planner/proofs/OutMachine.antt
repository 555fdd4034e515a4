-- The loop from a planner's file writes the items of the image, and with them the places.
--     outward-siblings    a list of siblings is read whole, and then what waits above it is closed
--     outward-tree        so a whole file gives the items of its image
--     placed-items        how many items there are; placed-siblings: the items of a list of siblings write its places
--     placed-tree         so a whole file gives its places, and what is behind them stays
use Prim.Native.Nat.{ℕ, suc, ◌+◌, ◌-◌, ◌≤◌, ◌<◌}
use mathlib.Core.Path.{◌≡◌, refl, sym, ap, ap₂, ◌∙◌}
use mathlib.Core.Bool.{Bool, true, false, not}
use mathlib.Core.List.{List, [], ◌∷◌, ◌++◌, append_assoc, append-nil}
use mathlib.Core.Option.{Option, none, some}
use native.Mathlib.Omega.{arith}
use lib.Dec.{eqb}
use lib.ListN.{length, set, take, drop, length-append, length-drop, take-append-drop}
use lib.Seq.{length-take-le, set_at}
use borrow.Author.Tests.{ne_eqb}
use Rattle.trees.specs.Tree.{size}
use Rattle.planner.specs.Siblings.{Siblings, empty, sibling, count, width, pre_counts, image, items, places}
use Rattle.planner.proofs.ImageLaws.{length-places}
use Rattle.planner.specs.inner.OutMachine.{Entry, entry, to_come, closed, outward, Written, placed}

-- ---- the items

-- what the loop gives after lists were closed
abbrev pub resumed : List ℕ → ℕ → List Entry → List (Option ℕ)
resumed cs v st = outward cs v (to_come st) false st

abbrev Claim : Siblings → Type 0
Claim f = (cs : List ℕ) (v : ℕ) (b : Bool) (st : List Entry) → 0 < width f
    → outward (pre_counts f ++ cs) v (width f) b st ≡ items f v ++ closed (resumed cs (v + count f)) st (not b)

-- a node with the children's list c: its children are written
children-written : (c : Siblings) → Claim c → (cs : List ℕ) (v n : ℕ) (b : Bool) (st : List Entry)
    → outward (width c ∷ (pre_counts c ++ cs)) v n b st
    ≡ items c (v + 1) ++ closed (resumed cs (v + 1 + count c)) (entry v (n - 1) b ∷ st) false
children-written empty I cs v n b st =
    let e : v + 1 ≡ v + 1 + 0 = omega arith in
    ap (λ (u : ℕ). none ∷ closed (resumed cs u) (entry v (n - 1) b ∷ st) false) e
children-written (sibling a c r) I cs v n b st = I cs (v + 1) true (entry v (n - 1) b ∷ st) (omega arith)

-- the siblings r after node v: they are written, and then v
rest-written : (r : Siblings) → Claim r → (cs : List ℕ) (v u : ℕ) (b : Bool) (st : List Entry)
    → closed (resumed (pre_counts r ++ cs) u) (entry v (width r) b ∷ st) false
    ≡ items r u ++ (some v ∷ closed (resumed cs (u + count r)) st (not b))
rest-written empty I cs v u b st =
    let e : u ≡ u + 0 = omega arith in
    ap (λ (x : ℕ). none ∷ some v ∷ closed (resumed cs x) st (not b)) e
rest-written (sibling a c r) I cs v u b st =
    let z : eqb (suc (width r)) 0 ≡ false = ne_eqb (suc (width r)) 0 (λ e. omega arith) in
    rw z (I cs u false (entry v (suc (width r)) b ∷ st) (omega arith))

pub outward-siblings : (f : Siblings) → Claim f
outward-siblings empty cs v b st h = absurd (omega arith)
outward-siblings (sibling a c r) cs v b st h =
    let e : suc (width r) - 1 ≡ width r = omega arith in
    let i : v + 1 + count c + count r ≡ v + (count c + count r + 1) = omega arith in
    ap (λ (l : List ℕ). outward (width c ∷ l) v (suc (width r)) b st) (append_assoc (pre_counts c) (pre_counts r) cs)
    ∙ children-written c (outward-siblings c) (pre_counts r ++ cs) v (suc (width r)) b st
    ∙ ap (λ (n : ℕ). items c (v + 1) ++ closed (resumed (pre_counts r ++ cs) (v + 1 + count c))
    (entry v n b ∷ st) false) e
    ∙ ap (λ (l : List (Option ℕ)). items c (v + 1) ++ l)
    (rest-written r (outward-siblings r) cs v (v + 1 + count c) b st
    ∙ ap (λ (x : ℕ). items r (v + 1 + count c) ++ (some v ∷ closed (resumed cs x) st (not b))) i
    ∙ sym (append_assoc (items r (v + 1 + count c)) (some v ∷ [])
    (closed (resumed cs (v + (count c + count r + 1))) st (not b))))
    ∙ sym (append_assoc (items c (v + 1)) (items r (v + 1 + count c) ++ (some v ∷ []))
    (closed (resumed cs (v + (count c + count r + 1))) st (not b)))

pub outward-tree : (f : Siblings) → width f ≡ 1 → outward (pre_counts f) 0 1 true [] ≡ items f 0
outward-tree f h =
    ap₂ (λ (l : List ℕ) (n : ℕ). outward l 0 n true []) (sym (append-nil (pre_counts f))) (sym h)
    ∙ outward-siblings f [] 0 true [] (omega arith)
    ∙ append-nil (items f 0)

-- ---- the places

pub placed-items : (xs : List (Option ℕ)) (i : ℕ) (ps : List ℕ) → (placed xs i ps).items ≡ i + length xs
placed-items [] i ps = omega arith
placed-items (none ∷ xs) i ps = omega (arith, placed-items xs (i + 1) ps)
placed-items (some u ∷ xs) i ps = omega (arith, placed-items xs (i + 1) (set ps u i))

regroup : (pre : List ℕ) (o : ℕ) (a b post : List ℕ)
    → pre ++ (o ∷ []) ++ a ++ (b ++ post) ≡ pre ++ (o ∷ (a ++ b ++ post))
regroup pre o a b post =
    append_assoc (pre ++ (o ∷ [])) a (b ++ post)
    ∙ append_assoc pre (o ∷ []) (a ++ (b ++ post))
    ∙ ap (λ (l : List ℕ). pre ++ (o ∷ l)) (sym (append_assoc a b post))

-- the places of f's nodes are from index v on, behind `pre`
abbrev PlacesOf : Siblings → Type 0
PlacesOf f = (v i : ℕ) (pre old post : List ℕ) (xs : List (Option ℕ)) → length pre ≡ v → length old ≡ count f
    → placed (items f v ++ xs) i (pre ++ (old ++ post)) ≡ placed xs (i + size (image f)) (pre ++ (places f i ++ post))

module _ (a : ℕ) (c r : Siblings) (Ic : PlacesOf c) (Ir : PlacesOf r) (v i : ℕ) (pre : List ℕ) (o : ℕ)
    (oc or post : List ℕ)
    (xs : List (Option ℕ)) (hp : length pre ≡ v) (hc : length oc ≡ count c) (hr : length or ≡ count r) where
  -- the children's places, then those of the rest, then the node's own
  node-placed : placed (items c (v + 1) ++ (items r (v + 1 + count c) ++ (some v ∷ xs))) i
      (pre ++ (o ∷ (oc ++ or ++ post)))
      ≡ placed xs (i + size (image c) + size (image r) + 1)
      (pre ++ ((i + size (image c) + size (image r)) ∷ (places c i ++ places r (i + size (image c)) ++ post)))
  node-placed =
      let ys : List (Option ℕ) = items r (v + 1 + count c) ++ (some v ∷ xs) in
      ap (placed (items c (v + 1) ++ ys) i)
      (sym (regroup pre o oc or post) ∙ append_assoc (pre ++ (o ∷ [])) oc (or ++ post))
      ∙ Ic (v + 1) i (pre ++ (o ∷ [])) oc (or ++ post) ys (length-append pre (o ∷ []) ∙ omega arith) hc
      ∙ ap (placed ys (i + size (image c))) (sym (append_assoc (pre ++ (o ∷ [])) (places c i) (or ++ post)))
      ∙ Ir (v + 1 + count c) (i + size (image c)) (pre ++ (o ∷ []) ++ places c i) or post (some v ∷ xs)
      (omega (arith, length-append (pre ++ (o ∷ [])) (places c i), length-append pre (o ∷ []), length-places c i)) hr
      ∙ ap (placed (some v ∷ xs) (i + size (image c) + size (image r)))
      (regroup pre o (places c i) (places r (i + size (image c))) post)
      ∙ ap (placed xs (i + size (image c) + size (image r) + 1))
      (set_at pre o (places c i ++ places r (i + size (image c)) ++ post) (i + size (image c) + size (image r)) v hp)

pub placed-siblings : (f : Siblings) → PlacesOf f
placed-siblings empty v i pre [] post xs hp ho = refl
placed-siblings empty v i pre (o ∷ old) post xs hp ho = absurd (omega arith)
placed-siblings (sibling a c r) v i pre [] post xs hp ho = absurd (omega arith)
placed-siblings (sibling a c r) v i pre (o ∷ old) post xs hp ho =
    let oc : List ℕ = take (count c) old in
    let or : List ℕ = drop (count c) old in
    let e : i + size (image c) + size (image r) + 1 ≡ i + (size (image c) + size (image r) + 1) = omega arith in
    ap₂ (λ (l : List (Option ℕ)) (m : List ℕ). placed l i (pre ++ (o ∷ (m ++ post))))
    (append_assoc (items c (v + 1)) (items r (v + 1 + count c) ++ (some v ∷ [])) xs
    ∙ ap (λ (l : List (Option ℕ)). items c (v + 1) ++ l) (append_assoc (items r (v + 1 + count c)) (some v ∷ []) xs))
    (sym (take-append-drop (count c) old))
    ∙ node-placed a c r (placed-siblings c) (placed-siblings r) v i pre o oc or post xs hp
    (length-take-le (count c) old (omega arith)) (length-drop (count c) old ∙ omega arith)
    ∙ ap (λ (n : ℕ). placed xs n
    (pre ++ ((i + size (image c) + size (image r)) ∷ (places c i ++ places r (i + size (image c)) ++ post)))) e

-- a whole tree's places, and what is behind them
pub placed-tree : (f : Siblings) (ps : List ℕ) → count f ≤ length ps
    → (placed (items f 0) 0 ps).places ≡ places f 0 ++ drop (count f) ps
placed-tree f ps h =
    ap₂ (λ (l : List (Option ℕ)) (m : List ℕ). (placed l 0 m).places) (sym (append-nil (items f 0)))
    (sym (take-append-drop (count f) ps))
    ∙ ap (λ (w : Written). w.places)
    (placed-siblings f 0 0 [] (take (count f) ps) (drop (count f) ps) [] refl (length-take-le (count f) ps h))
