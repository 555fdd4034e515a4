-- Which nodes a list leaves in W (document 02, S-5).
--     left_by              whether a node is left, by its last label
--     differing-last      it is left exactly where its last label is another than its own
--     differing-is        so `differing` lists exactly the nodes that the test `differs` holds of
--     unlisted-same       a node that is not left has the label that it had
--     differing-listed    what is left was listed
--     differing-same, differing-superseded   only last labels count
--     differing-below, differing-most        what is left passes 13 and is no longer than the list
use Prim.Native.Nat.{ℕ, ◌≤◌, ◌<◌}
use mathlib.Core.Path.{◌≡◌, refl, sym, ap, ap₂, ◌∙◌}
use mathlib.Core.Bool.{Bool, true, false, cond, not, ◌&&◌, ◌||◌}
use mathlib.Core.List.{List, [], ◌∷◌}
use mathlib.Core.Option.{Option, none, some}
use native.Mathlib.Decide.{ℕ_discrete, dec_lt}
use native.Mathlib.Omega.{arith}
use lib.Dec.{ltb, eqb}
use lib.ListN.{length, get_or, get_or-eq_default}
use borrow.Author.Tests.{eq-eqb, ne_eqb, eqb-true, not-false}
use Rattle.trees.specs.Changes.{changed}
use Rattle.trees.proofs.RunLaws.{changed-length}
use Rattle.list_laws.specs.Tests.{all_below, holds}
use Rattle.list_laws.proofs.BoolLaws.{true-false, and_both, and_left, and_right, or_cases, or-first, or-second}
use mathlib.Core.Logic.{inl, inr}
use Rattle.changes.specs.Entries.{Entry, entries, nodes_listed, labels_listed, last_label, superseded, RisingNodes}
use Rattle.changes.specs.Differing.{changing, differing, differs}
use Rattle.changes.proofs.EntryLaws.{entries-listed, nodes-entries, length-entries, length-nodes, last_label-miss}
use Rattle.changes.proofs.EntryLaws.{listed-holds, is_some}
use Rattle.changes.proofs.RisingLaws.{above-none, rising-first, rising-only, superseded-most}
use Rattle.changes.proofs.LaidLaws.{superseded-rises, superseded-labels}
use Rattle.changes.proofs.ChangedLaws.{label_or, changed-label, all_pass, nodes-pass, superseded-passes}

-- whether a node with this last label, whose own is d, is left
abbrev pub left_by : Option ℕ → ℕ → Bool
left_by none d = false
left_by (some b) d = not (eqb b d)

-- ---- by the last label

module _ (v : ℕ) (e : Entry) (m : List Entry) where
  -- the entry of v itself, where no other is left
  own : (b : Bool) → v ≡ e.node → holds v (nodes_listed m) ≡ false → holds v (nodes_listed (cond b m (e ∷ m))) ≡ not b
  unfolding nodes_listed holds
  own true q h = h
  own false q h = or-first (eqb v e.node) (holds v (nodes_listed m)) (eq-eqb v e.node q)

  -- the entry of another node
  other : (b : Bool) → (v ≡ e.node → ⊥) → holds v (nodes_listed (cond b m (e ∷ m))) ≡ holds v (nodes_listed m)
  unfolding nodes_listed holds
  other true q = refl
  other false q = ap (λ (t : Bool). t || holds v (nodes_listed m)) (ne_eqb v e.node q)

pub changing-last : (ls : List ℕ) (l : List Entry) (v : ℕ) → RisingNodes l
    → holds v (nodes_listed (changing ls l)) ≡ left_by (last_label v l) (get_or ls v 0)
unfolding changing RisingNodes
changing-last ls [] v r = unfold nodes_listed holds last_label in refl
changing-last ls (e ∷ l) v r = elim (ℕ_discrete v e.node) [
  | yes q ↦ own v e (changing ls l) (eqb e.label (get_or ls e.node 0)) q
      (changing-last ls l v r.1
      ∙ ap (λ (o : Option ℕ). left_by o (get_or ls v 0)) (above-none v e.node l (omega arith) r.0))
      ∙ sym (ap (λ (o : Option ℕ). left_by o (get_or ls v 0)) (ap (λ (u : ℕ). last_label u (e ∷ l)) q ∙ rising-first e l r)
      ∙ ap (λ (u : ℕ). not (eqb e.label (get_or ls u 0))) q)
  | no q ↦ other v e (changing ls l) (eqb e.label (get_or ls e.node 0)) q ∙ changing-last ls l v r.1
      ∙ sym (ap (λ (o : Option ℕ). left_by o (get_or ls v 0)) (last_label-miss v e l q))
]

-- a node is left where it is listed and its last label is not its own
pub differing-last : (ls vs bs : List ℕ) (v : ℕ)
    → holds v (differing ls vs bs) ≡ left_by (last_label v (entries vs bs)) (get_or ls v 0)
unfolding differing
differing-last ls vs bs v =
    changing-last ls (superseded (entries vs bs)) v (superseded-rises (entries vs bs))
    ∙ ap (λ (o : Option ℕ). left_by o (get_or ls v 0)) (superseded-labels (entries vs bs) v)

-- ---- as a test on nodes

left-tested : (o : Option ℕ) (d : ℕ) → left_by o d ≡ (is_some o && not (eqb (label_or o d) d))
left-tested none d = refl
left-tested (some b) d = refl

pub differing-is : (ls vs bs : List ℕ) (v : ℕ) → length vs ≡ length bs → v < length ls
    → holds v (differing ls vs bs) ≡ differs ls vs bs v
unfolding differs
differing-is ls vs bs v h k =
    differing-last ls vs bs v ∙ left-tested (last_label v (entries vs bs)) (get_or ls v 0)
    ∙ sym (ap₂ (λ (b : Bool) (a : ℕ). b && not (eqb a (get_or ls v 0)))
    (sym (ap (holds v) (nodes-entries vs bs h)) ∙ listed-holds v (entries vs bs)) (changed-label ls vs bs v k))

-- ---- what is left, and what is not

label_kept : (o : Option ℕ) (d : ℕ) → left_by o d ≡ false → label_or o d ≡ d
label_kept none d e = refl
label_kept (some b) d e = eqb-true b d (not-false (eqb b d) e)

-- a node that is not left has the label that it had: "On tables as built the answer is as before"
pub unlisted-same : (ls vs bs : List ℕ) (v : ℕ) → holds v (differing ls vs bs) ≡ false
    → get_or (changed ls vs bs) v 0 ≡ get_or ls v 0
unlisted-same ls vs bs v e = elim (dec_lt v (length ls)) [
  | yes h ↦ changed-label ls vs bs v h
      ∙ label_kept (last_label v (entries vs bs)) (get_or ls v 0) (sym (differing-last ls vs bs v) ∙ e)
  | no h ↦ get_or-eq_default (changed ls vs bs) 0 {n = v} (omega (arith, changed-length ls vs bs))
      ∙ sym (get_or-eq_default ls 0 {n = v} (omega arith))
]

left-some : (o : Option ℕ) (d : ℕ) → left_by o d ≡ true → is_some o ≡ true
left-some none d e = e
left-some (some b) d e = refl

entries-listed-in : (vs bs : List ℕ) (v : ℕ) → holds v (nodes_listed (entries vs bs)) ≡ true → holds v vs ≡ true
unfolding entries nodes_listed holds
entries-listed-in [] bs v e = e
entries-listed-in (u ∷ vs) [] v e = absurd (true-false (sym e))
entries-listed-in (u ∷ vs) (b ∷ bs) v e = elim (or_cases (eqb v u) (holds v (nodes_listed (entries vs bs))) e) [
  | inl a ↦ or-first (eqb v u) (holds v vs) a
  | inr a ↦ or-second (eqb v u) (holds v vs) (entries-listed-in vs bs v a)
]

-- what is left was listed
pub differing-listed : (ls vs bs : List ℕ) (v : ℕ) → holds v (differing ls vs bs) ≡ true → holds v vs ≡ true
differing-listed ls vs bs v e =
    entries-listed-in vs bs v (listed-holds v (entries vs bs)
    ∙ left-some (last_label v (entries vs bs)) (get_or ls v 0) (sym (differing-last ls vs bs v) ∙ e))

-- ---- only last labels count

pub differing-same : (ls vs bs us cs : List ℕ) → ((v : ℕ) → last_label v (entries vs bs) ≡ last_label v (entries us cs))
    → differing ls vs bs ≡ differing ls us cs
unfolding differing
differing-same ls vs bs us cs f =
    ap (λ (l : List Entry). nodes_listed (changing ls l))
    (rising-only (superseded (entries vs bs)) (superseded (entries us cs)) (superseded-rises (entries vs bs))
    (superseded-rises (entries us cs)) (λ v.
    superseded-labels (entries vs bs) v ∙ f v ∙ sym (superseded-labels (entries us cs) v)))

pub differing-superseded : (ls vs bs : List ℕ)
    → differing ls vs bs
    ≡ differing ls (nodes_listed (superseded (entries vs bs))) (labels_listed (superseded (entries vs bs)))
differing-superseded ls vs bs =
    let l = superseded (entries vs bs) in
    differing-same ls vs bs (nodes_listed l) (labels_listed l) (λ v.
    sym (ap (last_label v) (entries-listed (superseded (entries vs bs))) ∙ superseded-labels (entries vs bs) v))

-- ---- 13, and how many

changing-passes : (f : Entry → Bool) (ls : List ℕ) (l : List Entry) → all_pass f l ≡ true
    → all_pass f (changing ls l) ≡ true
unfolding changing all_pass
changing-passes f ls [] e = e
changing-passes f ls (x ∷ l) e =
    go (eqb x.label (get_or ls x.node 0)) (changing-passes f ls l (and_right (f x) (all_pass f l) e))
  where
    go : (b : Bool) → all_pass f (changing ls l) ≡ true → all_pass f (cond b (changing ls l) (x ∷ changing ls l)) ≡ true
    go true ih = ih
    go false ih = and_both (f x) (all_pass f (changing ls l)) (and_left (f x) (all_pass f l) e) ih

pub differing-below : (n : ℕ) (ls vs bs : List ℕ) → length vs ≡ length bs → all_below n vs ≡ true
    → all_below n (differing ls vs bs) ≡ true
unfolding differing
differing-below n ls vs bs h e =
    let inside : Entry → Bool = λ x. ltb x.node n in
    nodes-pass n (changing ls (superseded (entries vs bs)))
    ∙ changing-passes inside ls (superseded (entries vs bs))
    (superseded-passes inside (entries vs bs)
    (sym (nodes-pass n (entries vs bs)) ∙ ap (all_below n) (nodes-entries vs bs h) ∙ e))

changing-most : (ls : List ℕ) (l : List Entry) → length (changing ls l) ≤ length l
unfolding changing
changing-most ls [] = omega arith
changing-most ls (x ∷ l) = go (eqb x.label (get_or ls x.node 0)) (changing-most ls l)
  where
    go : (b : Bool) → length (changing ls l) ≤ length l
        → length (cond b (changing ls l) (x ∷ changing ls l)) ≤ length (x ∷ l)
    go true ih = omega arith
    go false ih = omega arith

pub differing-most : (ls vs bs : List ℕ) → length vs ≡ length bs → length (differing ls vs bs) ≤ length vs
unfolding differing
differing-most ls vs bs h =
    omega (
      arith,
      length-nodes (changing ls (superseded (entries vs bs))),
      changing-most ls (superseded (entries vs bs)),
      superseded-most (entries vs bs),
      length-entries vs bs h,
    )
