-- The code of `differing`: the nodes that it keeps are those that the definition leaves in W.
--     last-same            the nodes kept in the order of their last entries are those of `differing`
--     last-most, last_below   no more than are listed, and below what these are below
--     nothing_left, pushed-left   no node, and one node more
--     keep-later, keep-own, keep-new   one for each way out of `keep`
--     KeepLoop, keep-start, keep-again, keep-done   the loop over the list
--     kept-all, none_done, all_done   what is returned
--     left-wide, left-taken   what a caller takes of it
use Prim.Native.Nat.{ℕ, suc, ◌+◌, ◌-◌, ◌≤◌, ◌<◌}
use mathlib.Core.Path.{◌≡◌, refl, sym, ap, ap₂, ◌∙◌, subst}
use mathlib.Core.Bool.{Bool, true, false, cond, not, ◌&&◌, ◌||◌}
use mathlib.Core.List.{List, [], ◌∷◌, ◌++◌, append_assoc, append-nil}
use mathlib.Core.Option.{Option, none, some, or_else}
use native.Mathlib.Decide.{ℕ_discrete}
use native.Mathlib.Numerals.{add-one}
use native.Mathlib.Omega.{arith}
use lib.Dec.{eqb, leb, ltb}
use lib.ListN.{length, get_or, take, drop, set, replicate, length-append, length-set, drop_of_length-le}
use lib.Seq.{drop-cons, set-append_seam}
use borrow.Author.Tests.{eq-eqb, ne_eqb, eqb-true, leb-true}
use Rattle.list_laws.specs.Tests.{all_below, holds}
use Rattle.list_laws.proofs.BoolLaws.{and_both, and_left, and_right, or-first, true-false}
use Rattle.formats.specs.inner.InnerChecks.{lists_fit}
use Rattle.changes.specs.Entries.{entry, entries, last_label}
use Rattle.changes.specs.LayOver.{padded}
use Rattle.changes.specs.Differing.{differing}
use Rattle.changes.specs.declared.differing.LeftNodes.{LeftNodes}
use Rattle.changes.specs.inner.LastPlaces.{LastPlaces}
use Rattle.changes.specs.inner.LastDiffering.{is_left, last_differing, given_differing, left_within, left_nodes}
use Rattle.changes.specs.inner.LastDiffering.{pushed, kept_in, KeepArgs, DifferingDone}
use Rattle.changes.proofs.EntryLaws.{nodes-entries, last_label-hit, last_label-miss, listed-holds, is_some}
use Rattle.changes.proofs.DifferingLaws.{left_by, differing-last}
use Rattle.changes.proofs.StoredLaws.{length-padded, take-padded}

-- ---- the order of their last entries

-- v itself: it is kept where no later entry is for it, and then by this label; else by the later ones
own-kept : (o : Option ℕ) (b d v : ℕ) (l : List ℕ) → holds v l ≡ left_by o d
    → holds v (cond (not (is_some o) && not (eqb b d)) (v ∷ l) l) ≡ left_by (or_else o (some b)) d
unfolding or_else holds
own-kept (some c) b d v l ih = ih
own-kept none b d v l ih = go (eqb b d)
  where
    go : (t : Bool) → holds v (cond (not t) (v ∷ l) l) ≡ not t
    go true = ih
    go false = or-first (eqb v v) (holds v l) (eq-eqb v v refl)

other-kept : (t : Bool) (u v : ℕ) (l : List ℕ) → (v ≡ u → ⊥) → holds v (cond t (u ∷ l) l) ≡ holds v l
unfolding holds
other-kept true u v l q = ap (λ (b : Bool). b || holds v l) (ne_eqb v u q)
other-kept false u v l q = refl

pub last-left : (ls vs bs : List ℕ) (v : ℕ) → length vs ≡ length bs
    → holds v (last_differing ls vs bs) ≡ left_by (last_label v (entries vs bs)) (get_or ls v 0)
unfolding last_differing entries
last-left ls [] bs v h = unfold holds last_label in refl
last-left ls (u ∷ vs) [] v h = absurd (omega arith)
last-left ls (u ∷ vs) (b ∷ bs) v h = elim (ℕ_discrete v u) [
  | yes q ↦ ap (λ (w : ℕ). holds v (cond (is_left ls w b vs) (w ∷ last_differing ls vs bs) (last_differing ls vs bs)))
      (sym q)
      ∙ ap (λ (t : Bool). holds v (cond (not t && not (eqb b (get_or ls v 0))) (v ∷ last_differing ls vs bs)
      (last_differing ls vs bs)))
      (sym (ap (holds v) (nodes-entries vs bs (omega arith))) ∙ listed-holds v (entries vs bs))
      ∙ own-kept (last_label v (entries vs bs)) b (get_or ls v 0) v (last_differing ls vs bs)
      (last-left ls vs bs v (omega arith))
      ∙ sym (ap (λ (o : Option ℕ). left_by o (get_or ls v 0)) (last_label-hit v (entry u b) (entries vs bs) q))
  | no q ↦ other-kept (is_left ls u b vs) u v (last_differing ls vs bs) q ∙ last-left ls vs bs v (omega arith)
      ∙ sym (ap (λ (o : Option ℕ). left_by o (get_or ls v 0)) (last_label-miss v (entry u b) (entries vs bs) q))
]

pub last-same : (ls vs bs : List ℕ) (v : ℕ) → length vs ≡ length bs
    → holds v (last_differing ls vs bs) ≡ holds v (differing ls vs bs)
last-same ls vs bs v h = last-left ls vs bs v h ∙ sym (differing-last ls vs bs v)

pub last-most : (ls vs bs : List ℕ) → length (last_differing ls vs bs) ≤ length vs
unfolding last_differing
last-most ls [] bs = omega arith
last-most ls (v ∷ vs) [] = omega arith
last-most ls (v ∷ vs) (b ∷ bs) = go (is_left ls v b vs) (last-most ls vs bs)
  where
    go : (t : Bool) → length (last_differing ls vs bs) ≤ length vs
        → length (cond t (v ∷ last_differing ls vs bs) (last_differing ls vs bs)) ≤ suc (length vs)
    go true ih = omega arith
    go false ih = omega arith

pub last_below : (n : ℕ) (ls vs bs : List ℕ) → all_below n vs ≡ true → all_below n (last_differing ls vs bs) ≡ true
unfolding last_differing all_below
last_below n ls [] bs e = e
last_below n ls (v ∷ vs) [] e = refl
last_below n ls (v ∷ vs) (b ∷ bs) e =
    go (is_left ls v b vs) (last_below n ls vs bs (and_right (ltb v n) (all_below n vs) e))
  where
    go : (t : Bool) → all_below n (last_differing ls vs bs) ≡ true
        → all_below n (cond t (v ∷ last_differing ls vs bs) (last_differing ls vs bs)) ≡ true
    go true ih = and_both (ltb v n) (all_below n (last_differing ls vs bs)) (and_left (ltb v n) (all_below n vs) e) ih
    go false ih = ih

-- ---- in an array

pub nothing_left : left_within 0 (replicate 64 0) ≡ left_nodes []
unfolding padded
nothing_left = refl

pub pushed-left : (l : List ℕ) (v : ℕ) → length l < 64 → pushed (left_nodes l) v ≡ left_nodes (l ++ (v ∷ []))
unfolding padded
pushed-left l v h =
    let n : 64 - length l ≡ suc (63 - length l) = omega arith in
    let c : length (l ++ (v ∷ [])) ≡ length l + 1 = length-append l (v ∷ []) in
    let m : 63 - length l ≡ 64 - length (l ++ (v ∷ [])) = omega arith in
    let e : set (l ++ replicate (64 - length l) 0) (length l) v
    ≡ (l ++ (v ∷ [])) ++ replicate (64 - length (l ++ (v ∷ []))) 0 =
    ap (λ (i : ℕ). set (l ++ replicate i 0) (length l) v) n
    ∙ set-append_seam l 0 (replicate (63 - length l) 0) v
    ∙ sym (append_assoc l (v ∷ []) (replicate (63 - length l) 0))
    ∙ ap (λ (i : ℕ). (l ++ (v ∷ [])) ++ replicate i 0) m in
    ap₂ left_within (sym c) e

pub kept-all : (ls l vs bs : List ℕ) → length l + length vs ≤ 64
    → kept_in ls (left_nodes l) vs bs ≡ left_nodes (l ++ last_differing ls vs bs)
unfolding kept_in last_differing
kept-all ls l [] bs h = ap left_nodes (sym (append-nil l))
kept-all ls l (v ∷ vs) [] h = ap left_nodes (sym (append-nil l))
kept-all ls l (v ∷ vs) (b ∷ bs) h =
    go (is_left ls v b vs)
    (kept-all ls l vs bs (omega arith))
    (kept-all ls (l ++ (v ∷ [])) vs bs (omega (arith, length-append l (v ∷ []))))
  where
    go : (t : Bool) → kept_in ls (left_nodes l) vs bs ≡ left_nodes (l ++ last_differing ls vs bs)
        → kept_in ls (left_nodes (l ++ (v ∷ []))) vs bs ≡ left_nodes ((l ++ (v ∷ [])) ++ last_differing ls vs bs)
        → kept_in ls (cond t (pushed (left_nodes l) v) (left_nodes l)) vs bs
        ≡ left_nodes (l ++ cond t (v ∷ last_differing ls vs bs) (last_differing ls vs bs))
    go false ih jh = ih
    go true ih jh =
        ap (λ (t : LeftNodes). kept_in ls t vs bs) (pushed-left l v (omega arith)) ∙ jh
        ∙ ap left_nodes (append_assoc l (v ∷ []) (last_differing ls vs bs))

-- ---- one entry

module _ (t : LeftNodes) (ls vs : List ℕ) (v b i : ℕ) (f : Bool)
    (test : f ≡ holds v (drop (i + 1) vs)) where
  abbrev kept : LeftNodes
  kept = cond (is_left ls v b (drop (i + 1) vs)) (pushed t v) t

  kept_by : (x y : Bool) → f ≡ x → eqb b (get_or ls v 0) ≡ y → kept ≡ cond (not x && not y) (pushed t v) t
  kept_by x y p q = ap₂ (λ (a c : Bool). cond (not a && not c) (pushed t v) t) (sym test ∙ p) q

  -- a later entry holds
  pub keep-later : f ≡ true → t ≡ kept
  keep-later e = sym (kept_by true (eqb b (get_or ls v 0)) e refl)

  module _ (e : f ≡ false) (a : ℕ) (own-label : a ≡ get_or ls v 0) where
    pub keep-own : b ≡ a → t ≡ kept
    keep-own q = sym (kept_by false true e (eq-eqb b (get_or ls v 0) (q ∙ own-label)))

    pub keep-new : (b ≡ a → ⊥) → (r : LeftNodes) → r ≡ pushed t v → r ≡ kept
    keep-new n r q = q ∙ sym (kept_by false false e (ne_eqb b (get_or ls v 0) (λ z. n (z ∙ sym own-label))))

-- ---- the loop

pub record KeepLoop (ls vs bs : List ℕ) (t : LeftNodes) (i : ℕ) : Type 0 where
  pub wide : length t.nodes ≡ 64
  pub room : t.count ≤ i
  pub upto : i ≤ length vs
  pub most : length vs ≤ 64
  pub one_length : length vs ≡ length bs
  pub is : kept_in ls t (drop i vs) (drop i bs) ≡ left_nodes (last_differing ls vs bs)

module _ (ls vs bs : List ℕ) where
  pub fit-lengths : lists_fit vs bs ≡ true → (length vs ≡ length bs) × (length vs ≤ 64)
  fit-lengths e = (
    eqb-true (length vs) (length bs) (and_left (eqb (length vs) (length bs)) (leb (length vs) 64) e),
    leb-true (length vs) 64 (and_right (eqb (length vs) (length bs)) (leb (length vs) 64) e),
  )

  pub keep-start : lists_fit vs bs ≡ true → (t : LeftNodes) → t ≡ left_nodes [] → KeepLoop ls vs bs t 0
  keep-start e t q =
      let f = fit-lengths e in
      subst (λ (x : LeftNodes). KeepLoop ls vs bs x 0) (sym q) (record {
        wide = length-padded [] (omega arith);
        room = omega arith;
        upto = omega arith;
        most = f.1;
        one_length = f.0;
        is = kept-all ls [] vs bs (omega (arith, f.1));
      })

  module _ (t : LeftNodes) (i : ℕ) (L : KeepLoop ls vs bs t i) where
    pub keep-args : (last : List ℕ) → LastPlaces (length vs) vs last → i < length vs → KeepArgs t vs bs last i
    keep-args last P h = record {
      wide = L.wide;
      room = omega (arith, L.room, L.most);
      place = record { places = P; most = L.most; inside = h };
      one_length = L.one_length;
    }

    pub keep-again : i < length vs → (r : LeftNodes)
        → r ≡ cond (is_left ls (get_or vs i 0) (get_or bs i 0) (drop (i + 1) vs)) (pushed t (get_or vs i 0)) t
        → KeepLoop ls vs bs r (i + 1)
    unfolding kept_in
    keep-again h r e =
        let a : drop i vs ≡ get_or vs i 0 ∷ drop (i + 1) vs = rw add-one (drop-cons vs i 0 h) in
        let d : drop i bs ≡ get_or bs i 0 ∷ drop (i + 1) bs =
        rw add-one (drop-cons bs i 0 (omega (arith, L.one_length))) in
        let s = shape (is_left ls (get_or vs i 0) (get_or bs i 0) (drop (i + 1) vs)) in
        record {
          wide = ap (λ (x : LeftNodes). length x.nodes) e ∙ s.0;
          room = omega (arith, ap (λ (x : LeftNodes). x.count) e, s.1);
          upto = omega arith;
          most = L.most;
          one_length = L.one_length;
          is =
              ap (λ (x : LeftNodes). kept_in ls x (drop (i + 1) vs) (drop (i + 1) bs)) e
              ∙ sym (ap₂ (kept_in ls t) a d)
              ∙ L.is;
        }
      where
        shape : (b : Bool)
            → (length (cond b (pushed t (get_or vs i 0)) t).nodes ≡ 64)
            × ((cond b (pushed t (get_or vs i 0)) t).count ≤ i + 1)
        shape true = (length-set t.nodes t.count (get_or vs i 0) ∙ L.wide, omega (arith, L.room))
        shape false = (L.wide, omega (arith, L.room))

    pub keep-done : length vs ≤ i → t ≡ left_nodes (last_differing ls vs bs)
    unfolding kept_in
    keep-done h = sym (ap (λ (l : List ℕ). kept_in ls t l (drop i bs)) (drop_of_length-le vs {i = i} h)) ∙ L.is

  -- ---- what is returned

  done : (b : Bool) → lists_fit vs bs ≡ b → (r : LeftNodes) → r ≡ left_nodes (cond b (last_differing ls vs bs) [])
      → DifferingDone ls vs bs r
  done true e r q = record {
    result = q ∙ ap (λ (b : Bool). left_nodes (cond b (last_differing ls vs bs) [])) (sym e);
    few = omega (arith, ap (λ (x : LeftNodes). x.count) q, last-most ls vs bs, (fit-lengths e).1);
    same = λ f v. ap (λ (x : LeftNodes). holds v (take x.count x.nodes)) q
        ∙ ap (holds v) (take-padded (last_differing ls vs bs))
        ∙ last-same ls vs bs v (fit-lengths e).0;
  }
  done false e r q = record {
    result = q ∙ ap (λ (b : Bool). left_nodes (cond b (last_differing ls vs bs) [])) (sym e);
    few = omega (arith, ap (λ (x : LeftNodes). x.count) q);
    same = λ f v. absurd (true-false (sym f ∙ e));
  }

  pub none_done : lists_fit vs bs ≡ false → (r : LeftNodes) → r ≡ left_nodes [] → DifferingDone ls vs bs r
  none_done e r q = done false e r q

  pub all_done : lists_fit vs bs ≡ true → (r : LeftNodes) → r ≡ left_nodes (last_differing ls vs bs)
      → DifferingDone ls vs bs r
  all_done e r q = done true e r q

-- ---- what a caller takes of it

module _ (ls vs bs : List ℕ) (r : LeftNodes) (D : DifferingDone ls vs bs r) where
  count_is : r.count ≡ length (given_differing ls vs bs)
  count_is = ap (λ (x : LeftNodes). x.count) D.result

  pub left-wide : r.count ≤ length r.nodes
  left-wide =
      omega (
        arith,
        D.few,
        ap (λ (x : LeftNodes). length x.nodes) D.result,
        length-padded (given_differing ls vs bs) (omega (arith, D.few, count_is)),
      )

  pub left-taken : take r.count r.nodes ≡ given_differing ls vs bs
  left-taken =
      ap (λ (x : LeftNodes). take x.count x.nodes) D.result ∙ take-padded (given_differing ls vs bs)
