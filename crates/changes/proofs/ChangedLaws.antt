-- A plan's labels changed by a list: only the last label of each node counts (document 02, S-4 and S-12).
--     changed-label        the label that the changed labels have at a node
--     changed-same         lists with the same last labels change alike
--     changed-superseded   changing by a list is changing by its superseded form
--     changed-over         changing by one list and then by another is changing by the second laid over the first
--     holds-superseded     the nodes listed are those of the superseded form; holds-laid: those of both lists
--     same_count           lists that name the same nodes have the same length after superseding
--     superseded-passes, laid-passes   what passes 13 and 14 does so superseded, and laid one over the other
use Prim.Native.Nat.{ℕ, ◌≤◌, ◌<◌}
use mathlib.Core.Path.{◌≡◌, refl, sym, ap, ap₂, ◌∙◌}
use mathlib.Core.Bool.{Bool, true, cond, ◌&&◌, ◌||◌}
use mathlib.Core.List.{List, [], ◌∷◌}
use mathlib.Core.Option.{Option, none, some, or_else}
use native.Mathlib.Decide.{ℕ_discrete}
use native.Mathlib.Omega.{arith}
use lib.Dec.{ltb, eqb}
use lib.ListN.{length, get_or, set, length-set}
use lib.Seq.{get_or-set_same, get_or-set_other, ext_get_or}
use borrow.Author.Tests.{eq-eqb, ne_eqb}
use Rattle.trees.specs.Changes.{changed}
use Rattle.trees.proofs.RunLaws.{changed-length}
use Rattle.list_laws.specs.Tests.{all_below, holds}
use Rattle.list_laws.proofs.BoolLaws.{and_both, and_left, and_right}
use Rattle.formats.specs.Checks.{first_no, list_checks}
use Rattle.formats.proofs.InputLaws.{ListPasses, list-passes, passes-list}
use Rattle.changes.specs.Entries.{Entry, entries, nodes_listed, labels_listed, last_label, put, put_all, superseded, laid_over}
use Rattle.changes.proofs.EntryLaws.{entries-listed, nodes-entries, labels-entries, length-entries, length-nodes, length-labels}
use Rattle.changes.proofs.EntryLaws.{listed-holds, is_some}
use Rattle.changes.proofs.RisingLaws.{Place, later, same, sooner, place, put-later, put_same, put-here, rising-fewer, superseded-most}
use Rattle.changes.proofs.LaidLaws.{superseded-rises, superseded-labels, laid-labels}

-- the label of an option, or another
abbrev pub label_or : Option ℕ → ℕ → ℕ
label_or none d = d
label_or (some b) d = b

label_or-or_else : (o p : Option ℕ) (d : ℕ) → label_or (or_else o p) d ≡ label_or o (label_or p d)
unfolding or_else
label_or-or_else none p d = refl
label_or-or_else (some b) p d = refl

-- ---- the label at a node

set-label : (ls : List ℕ) (u b v : ℕ) → v < length ls
    → get_or (set ls u b) v 0 ≡ label_or (cond (eqb v u) (some b) none) (get_or ls v 0)
set-label ls u b v h = elim (ℕ_discrete v u) [
  | yes e ↦ ap (λ (i : ℕ). get_or (set ls u b) i 0) e ∙ get_or-set_same ls u b 0 (omega arith)
      ∙ sym (ap (λ (t : Bool). label_or (cond t (some b) none) (get_or ls v 0)) (eq-eqb v u e))
  | no e ↦ get_or-set_other ls u v b 0 e
      ∙ sym (ap (λ (t : Bool). label_or (cond t (some b) none) (get_or ls v 0)) (ne_eqb v u e))
]

pub changed-label : (ls vs bs : List ℕ) (v : ℕ) → v < length ls
    → get_or (changed ls vs bs) v 0 ≡ label_or (last_label v (entries vs bs)) (get_or ls v 0)
unfolding changed last_label entries
changed-label ls [] bs v h = refl
changed-label ls (u ∷ vs) [] v h = refl
changed-label ls (u ∷ vs) (b ∷ bs) v h =
    changed-label (set ls u b) vs bs v (omega (arith, length-set ls u b))
    ∙ ap (label_or (last_label v (entries vs bs))) (set-label ls u b v h)
    ∙ sym (label_or-or_else (last_label v (entries vs bs)) (cond (eqb v u) (some b) none) (get_or ls v 0))

-- labels that agree at every node
same-labels : (ls xs ys : List ℕ) → length xs ≡ length ls → length ys ≡ length ls
    → ((v : ℕ) → v < length ls → get_or xs v 0 ≡ get_or ys v 0) → xs ≡ ys
same-labels ls xs ys a b f = ext_get_or 0 xs ys (a ∙ sym b) (λ v h. f v (omega arith))

pub changed-same : (ls vs bs us cs : List ℕ) → ((v : ℕ) → last_label v (entries vs bs) ≡ last_label v (entries us cs))
    → changed ls vs bs ≡ changed ls us cs
changed-same ls vs bs us cs f =
    same-labels ls (changed ls vs bs) (changed ls us cs) (changed-length ls vs bs) (changed-length ls us cs) (λ v h.
    changed-label ls vs bs v h ∙ ap (λ (o : Option ℕ). label_or o (get_or ls v 0)) (f v) ∙ sym (changed-label ls us cs v h))

-- "with repeats the answer is that of the list after superseding"
pub changed-superseded : (ls vs bs : List ℕ)
    → changed ls vs bs
    ≡ changed ls (nodes_listed (superseded (entries vs bs))) (labels_listed (superseded (entries vs bs)))
changed-superseded ls vs bs =
    changed-same ls vs bs (nodes_listed (superseded (entries vs bs))) (labels_listed (superseded (entries vs bs))) (λ v.
    sym (ap (last_label v) (entries-listed (superseded (entries vs bs))) ∙ superseded-labels (entries vs bs) v))

-- "changing a plan by one and then by another gives the plan changed by the second laid over the first"
pub changed-over : (ls vs bs us cs : List ℕ)
    → changed (changed ls vs bs) us cs
    ≡ changed ls (nodes_listed (laid_over (entries vs bs) (entries us cs))) (labels_listed (laid_over (entries vs bs) (entries us cs)))
changed-over ls vs bs us cs =
    let l = laid_over (entries vs bs) (entries us cs) in
    same-labels ls (changed (changed ls vs bs) us cs) (changed ls (nodes_listed l) (labels_listed l))
    (changed-length (changed ls vs bs) us cs ∙ changed-length ls vs bs) (changed-length ls (nodes_listed l) (labels_listed l)) (λ v h.
    changed-label (changed ls vs bs) us cs v (omega (arith, changed-length ls vs bs))
    ∙ ap (label_or (last_label v (entries us cs))) (changed-label ls vs bs v h)
    ∙ sym (label_or-or_else (last_label v (entries us cs)) (last_label v (entries vs bs)) (get_or ls v 0))
    ∙ ap (λ (o : Option ℕ). label_or o (get_or ls v 0))
    (sym (ap (last_label v) (entries-listed l) ∙ laid-labels (entries vs bs) (entries us cs) v))
    ∙ sym (changed-label ls (nodes_listed l) (labels_listed l) v h))

-- ---- the nodes listed

pub holds-superseded : (v : ℕ) (vs bs : List ℕ) → length vs ≡ length bs
    → holds v vs ≡ holds v (nodes_listed (superseded (entries vs bs)))
holds-superseded v vs bs h =
    sym (ap (holds v) (nodes-entries vs bs h))
    ∙ listed-holds v (entries vs bs) ∙ ap is_some (sym (superseded-labels (entries vs bs) v))
    ∙ sym (listed-holds v (superseded (entries vs bs)))

either-some : (o p : Option ℕ) → is_some (or_else o p) ≡ (is_some p || is_some o)
unfolding or_else
either-some none none = refl
either-some none (some y) = refl
either-some (some x) none = refl
either-some (some x) (some y) = refl

pub holds-laid : (v : ℕ) (a b : List Entry)
    → holds v (nodes_listed (laid_over a b)) ≡ (holds v (nodes_listed a) || holds v (nodes_listed b))
holds-laid v a b =
    listed-holds v (laid_over a b) ∙ ap is_some (laid-labels a b v) ∙ either-some (last_label v b) (last_label v a)
    ∙ sym (ap₂ (λ (x y : Bool). x || y) (listed-holds v a) (listed-holds v b))

-- lists that name the same nodes have the same length after superseding
pub same_count : (a b : List Entry) → ((v : ℕ) → holds v (nodes_listed a) ≡ holds v (nodes_listed b))
    → length (superseded a) ≡ length (superseded b)
same_count a b f = omega (arith, fewer a b (λ v. f v), fewer b a (λ v. sym (f v)))
  where
    fewer : (c d : List Entry) → ((v : ℕ) → holds v (nodes_listed c) ≡ holds v (nodes_listed d))
        → length (superseded c) ≤ length (superseded d)
    fewer c d g =
        rising-fewer (superseded c) (superseded d) (superseded-rises c) (superseded-rises d) (λ v h.
        ap is_some (superseded-labels d v) ∙ sym (listed-holds v d) ∙ sym (g v) ∙ listed-holds v c
        ∙ sym (ap is_some (superseded-labels c v)) ∙ h)

-- ---- 13 and 14

-- every entry passes a test
unfoldable pub all_pass : (Entry → Bool) → List Entry → Bool
all_pass f [] = true
all_pass f (e ∷ l) = f e && all_pass f l

pub nodes-pass : (n : ℕ) (l : List Entry) → all_below n (nodes_listed l) ≡ all_pass (λ e. ltb e.node n) l
unfolding all_below nodes_listed all_pass
nodes-pass n [] = refl
nodes-pass n (e ∷ l) = ap (λ (t : Bool). ltb e.node n && t) (nodes-pass n l)

pub labels-pass : (k : ℕ) (l : List Entry) → all_below k (labels_listed l) ≡ all_pass (λ e. ltb e.label k) l
unfolding all_below labels_listed all_pass
labels-pass k [] = refl
labels-pass k (e ∷ l) = ap (λ (t : Bool). ltb e.label k && t) (labels-pass k l)

module _ (f : Entry → Bool) where
  put-passes : (e : Entry) (l : List Entry) → f e ≡ true → all_pass f l ≡ true → all_pass f (put e l) ≡ true
  unfolding all_pass
  put-passes e [] h a = unfold put in and_both (f e) true h refl
  put-passes e (x ∷ l) h a = go (place x.node e.node) (put-passes e l h (and_right (f x) (all_pass f l) a))
    where
      go : Place x.node e.node → all_pass f (put e l) ≡ true → all_pass f (put e (x ∷ l)) ≡ true
      go (later q) ih =
          ap (all_pass f) (put-later e x l q) ∙ and_both (f x) (all_pass f (put e l)) (and_left (f x) (all_pass f l) a) ih
      go (same q) ih = ap (all_pass f) (put_same e x l q) ∙ and_both (f e) (all_pass f l) h (and_right (f x) (all_pass f l) a)
      go (sooner q) ih = ap (all_pass f) (put-here e x l q) ∙ and_both (f e) (all_pass f (x ∷ l)) h a

  put_all-passes : (es l : List Entry) → all_pass f es ≡ true → all_pass f l ≡ true → all_pass f (put_all es l) ≡ true
  unfolding all_pass put_all
  put_all-passes [] l h a = a
  put_all-passes (e ∷ es) l h a =
      put_all-passes es (put e l) (and_right (f e) (all_pass f es) h) (put-passes e l (and_left (f e) (all_pass f es) h) a)

  pub superseded-passes : (l : List Entry) → all_pass f l ≡ true → all_pass f (superseded l) ≡ true
  unfolding superseded all_pass
  superseded-passes l h = put_all-passes l [] h refl

  pub laid-passes : (a b : List Entry) → all_pass f a ≡ true → all_pass f b ≡ true → all_pass f (laid_over a b) ≡ true
  unfolding laid_over
  laid-passes a b h k = put_all-passes b (superseded a) k (superseded-passes a h)

-- a list that passes 12 to 14 does so superseded
pub superseded-list : (n k : ℕ) (vs bs : List ℕ) → first_no (list_checks n k vs bs) ≡ 0
    → first_no (list_checks n k (nodes_listed (superseded (entries vs bs))) (labels_listed (superseded (entries vs bs)))) ≡ 0
superseded-list n k vs bs e =
    let l = superseded (entries vs bs) in
    let p : ListPasses n k vs bs = list-passes n k vs bs e in
    let m : length (superseded (entries vs bs)) ≤ length vs =
    omega (arith, superseded-most (entries vs bs), length-entries vs bs p.lengths) in
    passes-list n k (nodes_listed l) (labels_listed l) (record {
      lengths = length-nodes l ∙ sym (length-labels l);
      most = omega (arith, length-nodes l, p.most);
      nodes-below = nodes-pass n l ∙ superseded-passes (λ e. ltb e.node n) (entries vs bs)
          (sym (nodes-pass n (entries vs bs)) ∙ ap (all_below n) (nodes-entries vs bs p.lengths) ∙ p.nodes-below);
      labels_below = labels-pass k l ∙ superseded-passes (λ e. ltb e.label k) (entries vs bs)
          (sym (labels-pass k (entries vs bs)) ∙ ap (all_below k) (labels-entries vs bs p.lengths) ∙ p.labels_below);
    })
