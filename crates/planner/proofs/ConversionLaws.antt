-- S-2: out and home.
--     out-goes-home    what goes out is our plan of an acceptable tree, and comes home as the file that it was
--     home-exactly     a plan goes home exactly where it is the image of an acceptable tree
use Prim.Native.Nat.{ℕ, ◌+◌, ◌≤◌, ◌<◌}
use mathlib.Core.Path.{◌≡◌, refl, sym, ap, ◌∙◌, subst}
use mathlib.Core.Bool.{true, ◌&&◌}
use mathlib.Core.List.{List, ◌++◌}
use mathlib.Core.Logic.{◌↔◌}
use native.Mathlib.Omega.{arith}
use lib.Dec.{eqb, ltb}
use lib.ListN.{take, drop, length-take}
use lib.Seq.{get_or-take, get_or-drop}
use borrow.Author.Tests.{eqb-true, eq-eqb}
use Rattle.trees.specs.Tree.{Tree, leaf, node, size}
use Rattle.trees.proofs.MoveLaws.{both}
use Rattle.list_laws.specs.Tests.{all_below}
use Rattle.formats.specs.Plan.{plan_tree, plan_bytes}
use Rattle.formats.specs.Checks.{first_no, plan_checks}
use Rattle.list_laws.proofs.BoolLaws.{and_both}
use Rattle.list_laws.proofs.TestLaws.{all_below-all, at-all_below}
use Rattle.formats.proofs.PlanLaws.{plan-passes, size-plan_tree}
use Rattle.formats.specs.Passing.{PlanPasses}
use Rattle.formats.proofs.PlanTrees.{plan-tree, tree-passes, tree-plan}
use Rattle.planner.specs.Siblings.{Siblings, empty, sibling, width, pre_labels, image, unimage}
use Rattle.planner.specs.Siblings.{empty_label}
use Rattle.planner.specs.File.{file_count, label_run, file_tree, file_bytes, image_labels, is_image}
use Rattle.planner.specs.Conversion.{plan_of, file_of, Acceptable, GoesHome}
use Rattle.planner.proofs.PreorderLaws.{all_below-append}
use Rattle.planner.proofs.FileTrees.{WellFormed, Decoded, file-tree, tree-file}
use Rattle.planner.proofs.ImageLaws.{size-image, unimage-image, image-unimage}

-- labels of an image, and of the siblings of one
image-labelled : (f : Siblings) → all_below empty_label (pre_labels f) ≡ true → image_labels (image f) ≡ true
unfolding all_below
image-labelled empty e = refl
image-labelled (sibling a c r) e =
    let h = both (ltb a empty_label) (all_below empty_label (pre_labels c ++ pre_labels r)) e in
    let i = both (all_below empty_label (pre_labels c)) (all_below empty_label (pre_labels r))
    (sym (all_below-append empty_label (pre_labels c) (pre_labels r)) ∙ h.1) in
    and_both (image_labels (image c)) _ (image-labelled c i.0)
    (and_both (ltb a empty_label) _ h.0 (image-labelled r i.1))

labelled-image : (t : Tree) → image_labels t ≡ true → all_below empty_label (pre_labels (unimage t)) ≡ true
unfolding all_below
labelled-image (leaf a) e = refl
labelled-image (node l a r) e =
    let h = both (image_labels l) (ltb a empty_label && image_labels r) e in
    let i = both (ltb a empty_label) (image_labels r) h.1 in
    and_both (ltb a empty_label) _ i.0
    (all_below-append empty_label (pre_labels (unimage l)) (pre_labels (unimage r))
    ∙ and_both _ _ (labelled-image l h.0) (labelled-image r i.1))

image-small : (f : Siblings) → Acceptable f → size (image f) ≤ 65535
image-small f A = omega (arith, size-image f, A.nodes)

-- an acceptable tree's plan comes home as its file
pub image-home : (f : Siblings) → Acceptable f → file_of (plan_bytes (image f)) ≡ file_bytes f
image-home f A = ap (λ (t : Tree). file_bytes (unimage t)) (tree-plan (image f) (image-small f A))
    ∙ ap file_bytes (unimage-image f)

pub goes-home : (p : List ℕ) → GoesHome p → (first_no (plan_checks p) ≡ 0) × (is_image (plan_tree p) ≡ true)
unfolding is_image
goes-home p (f, A, e) =
    let t : plan_tree p ≡ image f = ap plan_tree (sym e) ∙ tree-plan (image f) (image-small f A) in (
      ap (λ (b : List ℕ). first_no (plan_checks b)) (sym e) ∙ tree-passes (image f) (image-small f A),
      rw t (and_both (image_labels (image f)) _ (image-labelled f A.labels)
          (rw (unimage-image f) (and_both (eqb (width f) 1) _ (eq-eqb (width f) 1 A.one_tree) A.counts))),
    )

pub home-goes : (p : List ℕ) → all_below 256 p ≡ true → first_no (plan_checks p) ≡ 0 → is_image (plan_tree p) ≡ true
    → GoesHome p
unfolding is_image
home-goes p bytes e i =
    let t : Tree = plan_tree p in
    let h = both (image_labels (plan_tree p)) _ i in
    let j = both (eqb (width (unimage (plan_tree p))) 1) _ h.1 in
    let m : image (unimage (plan_tree p)) ≡ plan_tree p = image-unimage (plan_tree p) h.0 in
    let P : PlanPasses p = plan-passes p e in
    let n : size (image (unimage (plan_tree p))) ≤ 65535 = rw m (omega (arith, size-plan_tree p P, P.most)) in (
      unimage (plan_tree p),
      record {
        one_tree = eqb-true (width (unimage (plan_tree p))) 1 j.0;
        counts = j.1;
        labels = labelled-image (plan_tree p) h.0;
        nodes = omega (arith, size-image (unimage (plan_tree p)), n);
      },
      ap plan_bytes m ∙ plan-tree p bytes e,
    )

-- "only plans that come from such a file may go home"
pub home-exactly : (p : List ℕ) → all_below 256 p ≡ true
    → ((first_no (plan_checks p) ≡ 0) × (is_image (plan_tree p) ≡ true)) ↔ GoesHome p
home-exactly p bytes = (λ h. home-goes p bytes h.0 h.1, goes-home p)

-- "Going out and home must restore the planner's file"
part-below : (b : List ℕ) (m n : ℕ) → all_below 256 b ≡ true → all_below 256 (take n (drop m b)) ≡ true
part-below b m n e =
    at-all_below 256 (take n (drop m b)) (λ j h.
    let l : j < n = omega (arith, length-take n (drop m b)) in
    subst (λ (x : ℕ). x < 256) (sym (get_or-take n (drop m b) j 0 l ∙ get_or-drop m b j 0))
    (all_below-all 256 b e (omega arith) (m + j)))

module _ (b : List ℕ) (bytes : all_below 256 b ≡ true) (W : WellFormed b)
    (labels : all_below empty_label (label_run b) ≡ true)
    (nodes : file_count b ≤ 32767) where
  decoded : Decoded b
  decoded = file-tree b W bytes

  pub out-acceptable : Acceptable (file_tree b)
  out-acceptable = record {
    one_tree = decoded.one_tree;
    counts = ap (all_below 256) decoded.counts ∙ part-below b (12 + file_count b) (file_count b) bytes;
    labels = ap (all_below empty_label) decoded.labels ∙ labels;
    nodes = omega (arith, decoded.nodes);
  }

  pub out-and-home : file_of (plan_of b) ≡ b
  out-and-home = image-home (file_tree b) out-acceptable ∙ decoded.bytes

  pub out-goes-home : GoesHome (plan_of b)
  out-goes-home = (file_tree b, out-acceptable, refl)

-- home and out again
pub home-and-out : (p : List ℕ) → GoesHome p → plan_of (file_of p) ≡ p
home-and-out p (f, A, e) =
    let t : file_of p ≡ file_bytes f = ap file_of (sym e) ∙ image-home f A in
    ap plan_of t ∙ ap (λ (g : Siblings). plan_bytes (image g)) (tree-file f A).1 ∙ e

pub out-plan-passes : (f : Siblings) → Acceptable f → first_no (plan_checks (plan_bytes (image f))) ≡ 0
out-plan-passes f A = tree-passes (image f) (image-small f A)
