-- What Planner cites of the planner's files.
--     file-below      the file of an acceptable tree is bytes
--     file-of-plan    the file of a plan that goes home is accepted, and goes out as that plan
--     place-subtree   what our tree has at the place of planner node v: the image of the siblings from v on
use Prim.Native.Nat.{ℕ, zero, suc, ◌+◌, ◌*◌, ◌-◌, ◌/◌, ◌%◌, ◌≤◌, ◌<◌}
use mathlib.Core.Path.{◌≡◌, refl, sym, ap, ◌∙◌, subst}
use mathlib.Core.Bool.{true}
use mathlib.Core.List.{List, ◌++◌}
use native.Mathlib.Decide.{dec_lt}
use native.Mathlib.Omega.{arith}
use lib.Dec.{ltb}
use lib.ListN.{length, get_or, get_or-append}
use lib.Seq.{get_or-append-add}
use borrow.Author.Tests.{lt-ltb, le-ltb, le-leb}
use Rattle.list_laws.specs.Tests.{all_below}
use Rattle.list_laws.proofs.BoolLaws.{and_both}
use Rattle.list_laws.proofs.TestLaws.{all_below-le}
use Rattle.trees.specs.Tree.{Tree, node, size}
use Rattle.trees.specs.Numbering.{split, sub}
use Rattle.trees.proofs.NodeLaws.{sub-root}
use Rattle.formats.specs.Bytes.{le32_bytes}
use Rattle.formats.specs.Plan.{plan_length, plan_tree, plan_bytes}
use Rattle.formats.proofs.PlanTrees.{tree-plan, length-plan_bytes}
use Rattle.planner.specs.Siblings.{Siblings, empty, sibling, count, pre_labels, pre_counts, image, unimage, places}
use Rattle.planner.specs.Siblings.{empty_label}
use Rattle.planner.specs.File.{file_count, file_length, label_run, file_tree, file_bytes, out_room}
use Rattle.planner.specs.Conversion.{file_of, Acceptable, GoesHome}
use Rattle.planner.proofs.PreorderLaws.{all_below-append}
use Rattle.planner.proofs.FileTrees.{formed-well, read-file, length-file, tree-file}
use Rattle.planner.proofs.ImageLaws.{size-image, length-places, PlaceOf, place-item, unimage-image}
use Rattle.planner.proofs.ConversionLaws.{image-home}
use Rattle.planner.proofs.CheckAnswers.{out-good}
use Rattle.claims.specs.PlannerFiles.{FileOf, siblings_from}

-- ---- the file of a plan

number-below : (n : ℕ) → all_below 256 (le32_bytes n) ≡ true
unfolding all_below
number-below n =
    and_both (ltb (n % 256) 256) _ (lt-ltb (n % 256) 256 (omega arith))
    (and_both (ltb (n / 256 % 256) 256) _ (lt-ltb (n / 256 % 256) 256 (omega arith))
    (and_both (ltb (n / 65536 % 256) 256) _ (lt-ltb (n / 65536 % 256) 256 (omega arith))
    (and_both (ltb (n / 16777216 % 256) 256) true (lt-ltb (n / 16777216 % 256) 256 (omega arith)) refl)))

both_below : (x y : List ℕ) → all_below 256 x ≡ true → all_below 256 y ≡ true → all_below 256 (x ++ y) ≡ true
both_below x y h k = all_below-append 256 x y ∙ and_both (all_below 256 x) (all_below 256 y) h k

pub file-below : (f : Siblings) → Acceptable f → all_below 256 (file_bytes f) ≡ true
unfolding file_bytes
file-below f A =
    both_below (le32_bytes (count f)) _ (number-below (count f))
    (both_below (le32_bytes 12) _ (number-below 12)
    (both_below (le32_bytes (12 + count f)) _ (number-below (12 + count f))
    (both_below (pre_labels f) (pre_counts f) (all_below-le empty_label 256 (pre_labels f) (omega arith) A.labels)
    A.counts)))

module _ (f : Siblings) (A : Acceptable f) where
  nodes_are : file_count (file_bytes f) ≡ count f
  nodes_are = omega (arith, (tree-file f A).0.exact, length-file f A)

  labels_are : all_below empty_label (label_run (file_bytes f)) ≡ true
  unfolding file_tree
  labels_are =
      ap (all_below empty_label) (sym (ap pre_labels (sym (tree-file f A).1) ∙ (read-file (file_bytes f) (tree-file f A).0
      ).labels))
      ∙ A.labels

  room : out_room (file_count (file_bytes f)) (length (plan_bytes (image f))) (file_count (file_bytes f)) ≡ true
  unfolding out_room
  room =
      let n : ℕ = file_count (file_bytes f) in
      and_both _ _ (le-leb n 32767 (omega (arith, nodes_are, A.nodes)))
      (and_both _ _
      (le-leb (plan_length (2 * n + 1)) (length (plan_bytes (image f)))
      (omega (arith, nodes_are, length-plan_bytes (image f), size-image f)))
      (le-leb n n (omega arith)))

  own-file : FileOf (plan_bytes (image f)) (file_bytes f)
  own-file = record {
    bytes = file-below f A;
    accepted = out-good (file_bytes f) (length (plan_bytes (image f))) (file_count (file_bytes f))
        (formed-well (file_bytes f) (tree-file f A).0) labels_are room;
    plan_is = ap (λ (g : Siblings). plan_bytes (image g)) (tree-file f A).1;
  }

pub file-of-plan : (p : List ℕ) → GoesHome p
    → FileOf p (file_of p) × (length (file_of p) ≡ file_length (count (unimage (plan_tree p))))
file-of-plan p (f, A, e) =
    let b : file_of p ≡ file_bytes f = ap file_of (sym e) ∙ image-home f A in
    let t : count (unimage (plan_tree p)) ≡ count f =
    ap (λ (q : List ℕ). count (unimage (plan_tree q))) (sym e)
    ∙ ap (λ (u : Tree). count (unimage u)) (tree-plan (image f) (omega (arith, size-image f, A.nodes)))
    ∙ ap count (unimage-image f) in (
      subst (FileOf p) (sym b) (subst (λ (q : List ℕ). FileOf q (file_bytes f)) e (own-file f A)),
      ap length b ∙ length-file f A ∙ ap file_length (sym t),
    )

-- ---- places

sub-left : (l : Tree) (a : ℕ) (r : Tree) (v : ℕ) → v < size l → sub (node l a r) v ≡ sub l v
unfolding sub split
sub-left l a r v h = rw (lt-ltb v (size l) h)

sub-right : (l : Tree) (a : ℕ) (r : Tree) (v j : ℕ) → v ≡ size l + j → j < size r → sub (node l a r) v ≡ sub r j
unfolding sub split
sub-right l a r v j e h =
    let d : v - size l ≡ j = omega arith in
    rw (le-ltb v (size l) (omega arith), lt-ltb v (size l + size r) (omega arith), d)

from-children : (a : ℕ) (c r : Siblings) (v : ℕ) → v < count c
    → siblings_from (sibling a c r) (suc v) ≡ siblings_from c v
unfolding siblings_from
from-children a c r v h = rw (lt-ltb v (count c) h)

from-rest : (a : ℕ) (c r : Siblings) (v : ℕ) → count c ≤ v
    → siblings_from (sibling a c r) (suc v) ≡ siblings_from r (v - count c)
unfolding siblings_from
from-rest a c r v h = rw (le-ltb v (count c) h)

from_first : (a : ℕ) (c r : Siblings) → siblings_from (sibling a c r) 0 ≡ sibling a c r
unfolding siblings_from
from_first a c r = refl

pub place-subtree : (f : Siblings) (lo v : ℕ) → v < count f
    → sub (image f) (get_or (places f lo) v 0 - lo) ≡ image (siblings_from f v)
place-subtree empty lo v h = absurd (omega arith)
place-subtree (sibling a c r) lo zero h =
    sub-root (image (sibling a c r)) (lo + size (image c) + size (image r) - lo) (omega arith)
    ∙ ap image (sym (from_first a c r))
place-subtree (sibling a c r) lo (suc v) h = elim (dec_lt v (count c)) [
  | yes l ↦ (let P : PlaceOf c 0 lo v = place-item c 0 lo v l in
      let p : get_or (places c lo ++ places r (lo + size (image c))) v 0 ≡ get_or (places c lo) v 0 =
      get_or-append (places c lo) (places r (lo + size (image c))) 0 v (omega (arith, length-places c lo)) in
      ap (λ (x : ℕ). sub (image (sibling a c r)) (x - lo)) p
      ∙ sub-left (image c) a (image r) (get_or (places c lo) v 0 - lo) (omega (arith, P.low, P.high))
      ∙ place-subtree c lo v l
      ∙ ap image (sym (from-children a c r v l)))
  | no l ↦ (let j : ℕ = v - count c in
      let P : PlaceOf r 0 (lo + size (image c)) j = place-item r 0 (lo + size (image c)) j (omega arith) in
      let q : v ≡ length (places c lo) + j = omega (arith, length-places c lo) in
      let p : get_or (places c lo ++ places r (lo + size (image c))) v 0 ≡ get_or (places r (lo + size (image c))) j 0 =
      ap (λ (x : ℕ). get_or (places c lo ++ places r (lo + size (image c))) x 0) q
      ∙ get_or-append-add (places c lo) (places r (lo + size (image c))) j 0 in
      ap (λ (x : ℕ). sub (image (sibling a c r)) (x - lo)) p
      ∙ sub-right (image c) a (image r) (get_or (places r (lo + size (image c))) j 0 - lo)
      (get_or (places r (lo + size (image c))) j 0 - (lo + size (image c))) (omega (arith, P.low))
      (omega (arith, P.low, P.high))
      ∙ place-subtree r (lo + size (image c)) j (omega arith)
      ∙ ap image (sym (from-rest a c r v (omega arith))))
]
