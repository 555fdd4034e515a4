-- Going home as a whole: the plan's tree, and its file.
--     HomePlan, home-plan           what check 19 says of a plan
--     home-room                     the file's length, by N
--     home-read-args, home-is       the two runs and the header
--     home-done, home-refused       the answers of the call
use Prim.Native.Nat.{ℕ, ◌+◌, ◌-◌, ◌*◌, ◌/◌, ◌≤◌}
use mathlib.Core.Path.{◌≡◌, refl, sym, ap, ap₂, ◌∙◌}
use mathlib.Core.Bool.{true}
use mathlib.Core.List.{List, ◌++◌, append_assoc}
use native.Mathlib.Omega.{arith}
use lib.Dec.{eqb}
use lib.ListN.{length, take, drop}
use lib.Seq.{sets}
use borrow.Author.Tests.{eqb-true}
use Rattle.list_laws.proofs.BoolLaws.{and_left, and_right}
use Rattle.list_laws.proofs.SliceLaws.{run-part, end-part, rest-cut}
use Rattle.std.specs.Prelude.{Result, IsErrAnd}
use Rattle.trees.specs.Tree.{Tree, labels_of, kinds_of}
use Rattle.formats.specs.Plan.{node_count, labels_within, kinds_in, plan_tree}
use Rattle.formats.specs.Checks.{first_no, plan_checks}
use Rattle.formats.specs.Refusals.{refusal_number, answer_number}
use Rattle.formats.specs.declared.refusals.Refusal.{Refusal}
use Rattle.formats.proofs.RefusalLaws.{handed-on, number-not-0}
use Rattle.formats.proofs.PlanLaws.{plan-passes, kinds-plan_tree, labels-plan_tree, size-plan_tree}
use Rattle.formats.specs.Passing.{PlanPasses}
use Rattle.planner.specs.Siblings.{Siblings, count, width, pre_labels, pre_counts, image, unimage}
use Rattle.planner.specs.File.{file_length, file_bytes, image_labels, is_image, comes_from_file, home_checks}
use Rattle.planner.specs.inner.ImageTests.{labels_fit, all_runs_fit}
use Rattle.planner.proofs.ImageLaws.{image-unimage}
use Rattle.planner.proofs.ImageTestLaws.{image-tests}
use Rattle.planner.proofs.CheckAnswers.{home-passes}
use Rattle.planner.specs.out.inner.Laid.{plan_header}
use Rattle.planner.proofs.out.PlanLaws.{rest-is, headed}
use Rattle.planner.specs.home.inner.Cells.{ReadArgs, ReadDone}
use Rattle.planner.specs.home.Home.{HomeArgs, HomeWritten, HomeDone}
use Rattle.planner.proofs.home.CheckLoop.{size-unimage}

pub record HomePlan (p : List ℕ) : Type 0 where
  pub plan : PlanPasses p
  pub tree : image (unimage (plan_tree p)) ≡ plan_tree p
  pub one_tree : width (unimage (plan_tree p)) ≡ 1
  pub labels_fit : labels_fit (labels_within p) (kinds_in p) ≡ true
  pub runs_fit : all_runs_fit 256 (kinds_in p) 0 ≡ true
  pub size_is : node_count p ≡ 2 * count (unimage (plan_tree p)) + 1

pub home-plan : (p : List ℕ) → comes_from_file p ≡ true → HomePlan p
unfolding comes_from_file is_image
home-plan p e =
    let t : Tree = plan_tree p in
    let P : PlanPasses p =
    plan-passes p (eqb-true (first_no (plan_checks p)) 0
    (and_left (eqb (first_no (plan_checks p)) 0) (is_image (plan_tree p)) e)) in
    let i : is_image (plan_tree p) ≡ true = and_right (eqb (first_no (plan_checks p)) 0) (is_image (plan_tree p)) e in
    let T = image-tests (plan_tree p) i in
    record {
      plan = P;
      tree = image-unimage (plan_tree p) (and_left (image_labels (plan_tree p)) _ i);
      one_tree = eqb-true (width (unimage (plan_tree p))) 1
          (and_left (eqb (width (unimage (plan_tree p))) 1) _ (and_right (image_labels (plan_tree p)) _ i));
      labels_fit = ap₂ labels_fit (sym (labels-plan_tree p P)) (sym (kinds-plan_tree p P)) ∙ T.0;
      runs_fit = ap (λ (l : List ℕ). all_runs_fit 256 l 0) (sym (kinds-plan_tree p P)) ∙ T.1;
      size_is = sym (size-plan_tree p P) ∙ size-unimage (plan_tree p);
    }

pub home-room : (p : List ℕ) → comes_from_file p ≡ true → file_length (count (unimage (plan_tree p))) ≡ 11 + node_count p
home-room p e = omega (arith, (home-plan p e).size_is)

pub home-half : (p : List ℕ) (m : ℕ) → first_no (home_checks p m) ≡ 0 → node_count p / 2 ≡ count (unimage (plan_tree p))
home-half p m e = omega (arith, (home-plan p (home-passes p m e).0).size_is)

file-header : (f : Siblings) (rest : List ℕ)
    → plan_header (count f) ++ (pre_labels f ++ (pre_counts f ++ rest)) ≡ file_bytes f ++ rest
unfolding file_bytes
file-header f rest =
    ap (λ (l : List ℕ). plan_header (count f) ++ l) (sym (append_assoc (pre_labels f) (pre_counts f) rest))

module _ (p : List ℕ) (n : ℕ) (b : List ℕ) (A : HomeArgs p n b) where
  H : HomePlan p
  H = home-plan p (home-passes p (length b) A.passes).0

  pub home-size : (n ≤ 32767) × (node_count p ≡ 2 * n + 1) × (length p ≡ 12 + 2 * (2 * n + 1)) × (12 + 2 * n ≤ length b)
  home-size = (
    omega (arith, A.count_is, H.size_is, H.plan.most),
    omega (arith, A.count_is, H.size_is),
    omega (arith, A.count_is, H.size_is, H.plan.exact),
    omega (arith, A.count_is, (home-passes p (length b) A.passes).1),
  )

  pub labels-part : take (12 + (2 * n + 1) - 12) (drop 12 p) ≡ labels_within p
  labels-part = run-part p 12 (2 * n + 1) ∙ ap (λ (i : ℕ). take i (drop 12 p)) (sym home-size.1)

  pub kinds-part : take (length p - (12 + (2 * n + 1))) (drop (12 + (2 * n + 1)) p) ≡ kinds_in p
  kinds-part =
      end-part p (12 + (2 * n + 1)) (2 * n + 1) (omega (arith, home-size.2))
      ∙ ap (λ (i : ℕ). take i (drop (12 + i) p)) (sym home-size.1)

  pub home-read-args : (ls ks : List ℕ) → ls ≡ labels_within p → ks ≡ kinds_in p → ReadArgs (unimage (plan_tree p)) ls ks b n
  home-read-args ls ks el ek = record {
    labels = ap labels_of H.tree ∙ labels-plan_tree p H.plan ∙ sym el;
    kinds = ap kinds_of H.tree ∙ kinds-plan_tree p H.plan ∙ sym ek;
    one_tree = H.one_tree;
    count_is = A.count_is;
    labels_fit = ap₂ labels_fit el ek ∙ H.labels_fit;
    runs_fit = ap (λ (l : List ℕ). all_runs_fit 256 l 0) ek ∙ H.runs_fit;
    fits = record { room = home-size.3; few = home-size.0 };
  }

  pub home-is : (q c : List ℕ) → ReadDone (unimage (plan_tree p)) n b q → c ≡ sets q 0 (plan_header n) → HomeWritten p b c
  home-is q c R e =
      let f : Siblings = unimage (plan_tree p) in
      let z : n - 0 ≡ n = omega arith in
      let y : 12 + n + 0 ≡ 12 + n = omega arith in
      let labels : take n (drop 12 q) ≡ pre_labels f = ap (λ (i : ℕ). take i (drop 12 q)) (sym z) ∙ R.labels in
      let counts : take n (drop (12 + n) q) ≡ pre_counts f =
      ap₂ (λ (i j : ℕ). take i (drop j q)) (sym z) (sym y) ∙ R.counts in
      let rest : drop (12 + 2 * n) q ≡ drop (12 + 2 * n) b =
      rest-is q b (12 + 2 * n) R.kept.same R.kept.excess in
      e ∙ headed q n (omega (arith, R.kept.same, home-size.3))
      ∙ ap (λ (l : List ℕ). plan_header n ++ l)
      (rest-cut q 12 n (12 + n) refl
      ∙ ap₂ (λ (x y : List ℕ). x ++ y) labels
      (rest-cut q (12 + n) n (12 + 2 * n) (omega arith) ∙ ap₂ (λ (x y : List ℕ). x ++ y) counts rest))
      ∙ ap (λ (i : ℕ). plan_header i ++ (pre_labels f ++ (pre_counts f ++ drop (12 + 2 * i) b))) A.count_is
      ∙ file-header f (drop (12 + 2 * count f) b)

-- ---- the answers

pub home-done : (p b c : List ℕ) → first_no (home_checks p (length b)) ≡ 0 → HomeWritten p b c → HomeDone p b 0 c
home-done p b c e W = record { number = sym e; written = λ h. W; kept = λ h. absurd (h refl) }

-- a is what `?` hands on of the refusal r
pub home-refused : (p b : List ℕ) (r : Refusal) (a : Result Unit Refusal) → IsErrAnd a (λ e. e ≡ r)
    → refusal_number r ≡ first_no (home_checks p (length b)) → HomeDone p b (answer_number a) b
home-refused p b r a h e = record {
  number = handed-on r a h ∙ e;
  written = λ z. absurd (number-not-0 r (sym (handed-on r a h) ∙ z));
  kept = λ z. refl;
}
