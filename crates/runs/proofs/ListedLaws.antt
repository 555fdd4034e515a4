-- Laws of a list of changes that is read node by node.
--     label-hit, label-miss, label-end   the scan of the list, entry by entry: what its loop uses
--     label-changed   label_for is the label that `changed` holds
--     label-last, label-unlisted   it is the last entry's for the node, or the node's own where none is for it
--     label_below   all are in their range
use Prim.Native.Nat.{ℕ, suc, ◌+◌, ◌≤◌, ◌<◌}
use mathlib.Core.Path.{◌≡◌, refl, sym, ap, ◌∙◌}
use mathlib.Core.Bool.{Bool, true, false, cond, ◌||◌}
use mathlib.Core.List.{List, [], ◌∷◌, ◌++◌}
use native.Mathlib.Decide.{ℕ_discrete}
use native.Mathlib.Numerals.{add-one}
use native.Mathlib.Omega.{arith}
use borrow.Author.Tests.{eq-eqb, ne_eqb, eqb-false}
use lib.Dec.{eqb}
use lib.ListN.{length, get_or, drop, set, length-set, drop_of_length-le}
use lib.Seq.{drop-cons, get_or-set_same, get_or-set_other}
use Rattle.trees.specs.Changes.{changed}
use Rattle.list_laws.specs.Tests.{holds}
use Rattle.list_laws.proofs.BoolLaws.{true-false}
use Rattle.runs.specs.inner.Listed.{label_for}

-- ---- the scan for a label

module _ (vs bs : List ℕ) (v i : ℕ) (hv : i < length vs) (hb : i < length bs) (a : ℕ) where
  label-iteration : (t : Bool) → eqb (get_or vs i 0) v ≡ t
      → label_for a (drop i vs) (drop i bs) v ≡ label_for (cond t (get_or bs i 0) a) (drop (i + 1) vs) (drop (i + 1) bs) v
  unfolding label_for
  label-iteration t e =
      rw (add-one, drop-cons vs i 0, drop-cons bs i 0)
      (ap (λ (t : Bool). label_for (cond t (get_or bs i 0) a) (drop (suc i) vs) (drop (suc i) bs) v) e)

  pub label-hit : get_or vs i 0 ≡ v
      → label_for a (drop i vs) (drop i bs) v ≡ label_for (get_or bs i 0) (drop (i + 1) vs) (drop (i + 1) bs) v
  label-hit e = label-iteration true (eq-eqb (get_or vs i 0) v e)

  pub label-miss : (get_or vs i 0 ≡ v → ⊥)
      → label_for a (drop i vs) (drop i bs) v ≡ label_for a (drop (i + 1) vs) (drop (i + 1) bs) v
  label-miss e = label-iteration false (ne_eqb (get_or vs i 0) v e)

pub label-end : (vs bs : List ℕ) (v i a : ℕ) → length vs ≤ i → label_for a (drop i vs) (drop i bs) v ≡ a
unfolding label_for
label-end vs bs v i a h = rw (drop_of_length-le vs {i = i} h)

-- ---- what it means

-- the label that the changed labels have at v
pub label-changed : (ls vs bs : List ℕ) (v : ℕ) → v < length ls
    → get_or (changed ls vs bs) v 0 ≡ label_for (get_or ls v 0) vs bs v
unfolding changed label_for
label-changed ls [] bs v h = refl
label-changed ls (u ∷ vs) [] v h = refl
label-changed ls (u ∷ vs) (b ∷ bs) v h =
    label-changed (set ls u b) vs bs v (rw length-set h) ∙ ap (λ (a : ℕ). label_for a vs bs v) (here (ℕ_discrete u v))
  where
    here : Dec (u ≡ v) → get_or (set ls u b) v 0 ≡ cond (eqb u v) b (get_or ls v 0)
    here (yes e) = rw (eq-eqb u v e, e) (get_or-set_same ls v b 0 h)
    here (no e) = rw (ne_eqb u v e) (get_or-set_other ls u v b 0 (λ q. e (sym q)))

or-none : (s t : Bool) → (s || t) ≡ false → (s ≡ false) × (t ≡ false)
or-none true t e = absurd (true-false e)
or-none false t e = (refl, e)

pub label-unlisted : (a : ℕ) (vs bs : List ℕ) (v : ℕ) → holds v vs ≡ false → label_for a vs bs v ≡ a
unfolding label_for holds
label-unlisted a [] bs v h = refl
label-unlisted a (u ∷ vs) [] v h = refl
label-unlisted a (u ∷ vs) (b ∷ bs) v h =
    let o : (eqb v u ≡ false) × (holds v vs ≡ false) = or-none (eqb v u) (holds v vs) h in
    label-unlisted (cond (eqb u v) b a) vs bs v o.1
    ∙ ap (λ (t : Bool). cond t b a) (ne_eqb u v (λ e. eqb-false v u o.0 (sym e)))

-- the last entry for v holds
pub label-last : (a : ℕ) (vs bs : List ℕ) (v b : ℕ) (us cs : List ℕ) → length vs ≡ length bs → holds v us ≡ false
    → label_for a (vs ++ (v ∷ us)) (bs ++ (b ∷ cs)) v ≡ b
unfolding label_for
label-last a [] [] v b us cs e h =
    label-unlisted (cond (eqb v v) b a) us cs v h ∙ ap (λ (t : Bool). cond t b a) (eq-eqb v v refl)
label-last a [] (x ∷ bs) v b us cs e h = absurd (omega arith)
label-last a (u ∷ vs) [] v b us cs e h = absurd (omega arith)
label-last a (u ∷ vs) (x ∷ bs) v b us cs e h = label-last (cond (eqb u v) x a) vs bs v b us cs (omega arith) h

pub label_below : (k a : ℕ) (vs bs : List ℕ) (v : ℕ) → a < k → ((j : ℕ) → get_or bs j 0 < k) → label_for a vs bs v < k
unfolding label_for
label_below k a [] bs v h below = h
label_below k a (u ∷ vs) [] v h below = h
label_below k a (u ∷ vs) (b ∷ bs) v h below =
    label_below k (cond (eqb u v) b a) vs bs v (either (eqb u v)) (λ j. below (suc j))
  where
    either : (t : Bool) → cond t b a < k
    either true = below 0
    either false = h
