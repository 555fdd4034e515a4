-- S-2 of document 02: what is proved of the planner's files, by name.
--     n-becomes-2n+1        the plan's nodes
--     out-and-home          going out and home restores the file
--     home-and-out          going home and out restores the plan
--     home-exactly          a plan goes home exactly where it is the plan of an acceptable file's tree
--     plan-passes-2-to-5    what goes out is a plan
--     place-of-node         the place given for a node is where it is, with its label, as an inner node
--     tests-are-image       check 19 going home, by tests of labels and kinds
use Prim.Native.Nat.{ℕ, ◌+◌, ◌*◌, ◌-◌, ◌<◌}
use mathlib.Core.Path.{◌≡◌, refl, sym, ap, ◌∙◌}
use mathlib.Core.Bool.{Bool, true, false}
use mathlib.Core.List.{List}
use mathlib.Core.Logic.{◌↔◌}
use mathlib.Core.Option.{none}
use native.Mathlib.Omega.{arith}
use lib.Dec.{eqb}
use lib.ListN.{length, get_or}
use borrow.Author.Tests.{eqb-true, eq-eqb}
use Rattle.list_laws.specs.Tests.{all_below}
use Rattle.list_laws.proofs.BoolLaws.{and_both, and_left, and_right}
use Rattle.trees.specs.Tree.{Tree, label_at, kind_at, labels_of, kinds_of}
use Rattle.formats.specs.Plan.{plan_length, plan_tree}
use Rattle.formats.specs.Checks.{first_no, plan_checks}
use Rattle.formats.proofs.PlanTrees.{length-plan_bytes}
use Rattle.planner.specs.Siblings.{Siblings, pre_labels, image, items, item_label, item_kind, places}
use Rattle.planner.specs.File.{file_count, label_run, file_tree, out_checks, is_image, comes_from_file}
use Rattle.planner.specs.Conversion.{plan_of, places_of, file_of, Acceptable, GoesHome}
use Rattle.planner.specs.inner.ImageTests.{labels_fit, one_top, passes_tests}
use Rattle.planner.proofs.FileTrees.{Decoded, file-tree}
use Rattle.planner.proofs.ImageLaws.{size-image, PlaceOf, place-item}
use Rattle.planner.proofs.ItemLaws.{label-item, kind-item}
use Rattle.planner.proofs.ImageTestLaws.{tests-image, image-tests}
use Rattle.planner.proofs.CheckAnswers.{OutPasses, out-passes}
use Rattle.planner.proofs.ConversionLaws as laws

module _ (b : List ℕ) (m k : ℕ) (bytes : all_below 256 b ≡ true) (passes : first_no (out_checks b m k) ≡ 0) where
  P : OutPasses b m k
  P = out-passes b m k passes

  decoded : Decoded b
  decoded = file-tree b P.file bytes

  -- "So n nodes become 2n+1."
  pub n-becomes-2n+1 : length (plan_of b) ≡ plan_length (2 * file_count b + 1)
  n-becomes-2n+1 = length-plan_bytes (image (file_tree b)) ∙ omega (arith, size-image (file_tree b), decoded.nodes)

  pub acceptable : Acceptable (file_tree b)
  acceptable = laws.out-acceptable b bytes P.file P.labels P.nodes

  -- "Going out and home must restore the planner's file"
  pub out-and-home : file_of (plan_of b) ≡ b
  out-and-home = laws.out-and-home b bytes P.file P.labels P.nodes

  pub out-goes-home : GoesHome (plan_of b)
  out-goes-home = laws.out-goes-home b bytes P.file P.labels P.nodes

  pub plan-passes-2-to-5 : first_no (plan_checks (plan_of b)) ≡ 0
  plan-passes-2-to-5 = laws.out-plan-passes (file_tree b) acceptable

  -- "Going out, a table of 16-bit numbers tells each planner node's place in our plan."
  pub place-of-node : (v : ℕ) → v < file_count b
      → (label_at (image (file_tree b)) (get_or (places_of b) v 0) ≡ get_or (label_run b) v 0)
      × (kind_at (image (file_tree b)) (get_or (places_of b) v 0) ≡ 1)
  place-of-node v h =
      let f : Siblings = file_tree b in
      let S : PlaceOf f 0 0 v = place-item f 0 0 v (omega (arith, decoded.nodes)) in
      let j : ℕ = get_or (places f 0) v 0 in
      let z : j - 0 ≡ j = omega arith in
      let w : 0 + v ≡ v = omega arith in
      let g : ℕ → ℕ = λ u. get_or (pre_labels f) u 0 in (
        label-item f 0 g (λ i l. (let q : 0 + i ≡ i = omega arith in ap g q)) j (omega (arith, S.high))
            ∙ ap (item_label g) (ap (λ (i : ℕ). get_or (items f 0) i none) (sym z) ∙ S.item)
            ∙ ap g w ∙ ap (λ (l : List ℕ). get_or l v 0) decoded.labels,
        kind-item f 0 j (omega (arith, S.high))
            ∙ ap item_kind (ap (λ (i : ℕ). get_or (items f 0) i none) (sym z) ∙ S.item),
      )

-- "only plans that come from such a file may go home"
pub home-exactly : (p : List ℕ) → all_below 256 p ≡ true → (comes_from_file p ≡ true) ↔ GoesHome p
unfolding comes_from_file
home-exactly p bytes = (
  λ e. laws.home-goes p bytes (eqb-true (first_no (plan_checks p)) 0 (and_left _ (is_image (plan_tree p)) e))
      (and_right (eqb (first_no (plan_checks p)) 0) _ e),
  λ g. and_both _ _ (eq-eqb (first_no (plan_checks p)) 0 (laws.goes-home p g).0) (laws.goes-home p g).1,
)

pub home-and-out : (p : List ℕ) → GoesHome p → plan_of (file_of p) ≡ p
home-and-out p g = laws.home-and-out p g

-- check 19 going home, as the loops test it
same_answer : (a b : Bool) → (a ≡ true → b ≡ true) → (b ≡ true → a ≡ true) → a ≡ b
same_answer true b f g = sym (f refl)
same_answer false true f g = g refl
same_answer false false f g = refl

pub tests-are-image : (t : Tree) → passes_tests (labels_of t) (kinds_of t) ≡ is_image t
unfolding passes_tests
tests-are-image t =
    same_answer (passes_tests (labels_of t) (kinds_of t)) (is_image t)
    (λ e. (let h = and_right (labels_fit (labels_of t) (kinds_of t)) _ e in
    tests-image t (and_left (labels_fit (labels_of t) (kinds_of t)) _ e) (and_right (one_top (kinds_of t)) _ h)
    (and_left (one_top (kinds_of t)) _ h)))
    (λ e. (let h = image-tests t e in and_both _ _ h.0 (and_both _ _ h.2 h.1)))
