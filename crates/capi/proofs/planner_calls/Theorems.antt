-- What the two exported functions mean together (document 02, S-2), each by citing what is below.
--     home-restores-file    a file that went out comes home from its plan, byte for byte, where there is room for it
--     out-restores-plan     a plan that went home goes out from its file, byte for byte, where there is room for it
--     home-accepts          home accepts exactly the plans of acceptable files, where the output is long enough
use Prim.Native.Nat.{ℕ, ◌+◌, ◌*◌, ◌≤◌}
use mathlib.Core.Path.{◌≡◌, sym, ap, ap₂, ◌∙◌, subst}
use mathlib.Core.Bool.{true}
use mathlib.Core.List.{List, ◌++◌}
use mathlib.Core.Logic.{◌↔◌}
use native.Mathlib.Omega.{arith}
use lib.ListN.{length, drop}
use borrow.Author.Tests.{eq-eqb, le-leb}
use Rattle.list_laws.specs.Tests.{all_below}
use Rattle.list_laws.proofs.BoolLaws.{and_both}
use Rattle.trees.specs.Tree.{Tree}
use Rattle.formats.specs.Plan.{plan_length, plan_tree, plan_bytes}
use Rattle.formats.specs.Checks.{first_no, plan_checks}
use Rattle.formats.proofs.PlanTrees.{tree-plan, length-plan_bytes}
use Rattle.planner.specs.Siblings.{Siblings, count, pre_labels, image, unimage, empty_label}
use Rattle.planner.specs.File.{file_count, file_length, label_run, file_tree, file_bytes, well_formed, out_room}
use Rattle.planner.specs.File.{comes_from_file}
use Rattle.planner.specs.Conversion.{plan_of, file_of, Acceptable, GoesHome}
use Rattle.planner.proofs.FileTrees.{WellFormed, formed-well, read-file, file-tree, length-file, tree-file}
use Rattle.planner.proofs.ImageLaws.{size-image, unimage-image}
use Rattle.planner.proofs.ConversionLaws.{goes-home, image-home}
use Rattle.planner.proofs.CheckAnswers.{OutPasses, out-passes, out-good, home-good, home-passes}
use Rattle.planner.proofs.Theorems as planner
use Rattle.planner.specs.out.Out.{OutDone}
use Rattle.planner.specs.home.Home.{HomeDone}

-- the plan of an acceptable file comes from one
comes : (p : List ℕ) → GoesHome p → comes_from_file p ≡ true
unfolding comes_from_file
comes p g = and_both _ _ (eq-eqb (first_no (plan_checks p)) 0 (goes-home p g).0) (goes-home p g).1

count-home : (f : Siblings) → Acceptable f → count (unimage (plan_tree (plan_bytes (image f)))) ≡ count f
count-home f A =
    ap (λ (t : Tree). count (unimage t)) (tree-plan (image f) (omega (arith, size-image f, A.nodes)))
    ∙ ap count (unimage-image f)

-- what is known of the file b of a plan p that goes home
record Restored (b p : List ℕ) : Type 0 where
  formed : well_formed b ≡ true
  labels : all_below empty_label (label_run b) ≡ true
  few : file_count b ≤ 32767
  plan_length : length p ≡ plan_length (2 * file_count b + 1)

of-file : (f : Siblings) → Acceptable f → Restored (file_bytes f) (plan_bytes (image f))
unfolding file_tree
of-file f A =
    let W : WellFormed (file_bytes f) = (tree-file f A).0 in
    let n : file_count (file_bytes f) ≡ count f = omega (arith, W.exact, length-file f A) in
    let l : pre_labels f ≡ label_run (file_bytes f) =
    ap pre_labels (sym (tree-file f A).1) ∙ (read-file (file_bytes f) W).labels in
    record {
      formed = formed-well (file_bytes f) W;
      labels = ap (all_below empty_label) (sym l) ∙ A.labels;
      few = omega (arith, n, A.nodes);
      plan_length = length-plan_bytes (image f) ∙ omega (arith, size-image f, n);
    }

restored : (p : List ℕ) → GoesHome p → Restored (file_of p) p
restored p (f, A, e) =
    let t : file_of p ≡ file_bytes f = ap file_of (sym e) ∙ image-home f A in
    subst (λ (b : List ℕ). Restored b p) (sym t) (subst (Restored (file_bytes f)) e (of-file f A))

room_fits : (n plan places : ℕ) → n ≤ 32767 → plan_length (2 * n + 1) ≤ plan → n ≤ places → out_room n plan places ≡ true
unfolding out_room
room_fits n plan places few long fits =
    and_both _ _ (le-leb n 32767 few) (and_both _ _ (le-leb (plan_length (2 * n + 1)) plan long) (le-leb n places fits))

-- "Going out and home must restore the planner's file"
module _ (b p ps q qs : List ℕ) (bytes : all_below 256 b ≡ true) (D : OutDone b p ps 0 q qs) where
  P : OutPasses b (length p) (length ps)
  P = out-passes b (length p) (length ps) (sym D.number)

  pub home-restores-file : (c : List ℕ) (r : ℕ) (c' : List ℕ) → length b ≤ length c → HomeDone (plan_of b) c r c'
      → (r ≡ 0) × (c' ≡ b ++ drop (length b) c)
  home-restores-file c r c' room H =
      let passes = sym D.number in
      let A : Acceptable (file_tree b) = planner.acceptable b (length p) (length ps) bytes passes in
      let n : count (unimage (plan_tree (plan_of b))) ≡ file_count b =
      count-home (file_tree b) A ∙ (file-tree b P.file bytes).nodes in
      let l : file_length (count (unimage (plan_tree (plan_of b)))) ≡ length b = omega (arith, n, P.file.exact) in
      let g : comes_from_file (plan_of b) ≡ true =
      comes (plan_of b) (planner.out-goes-home b (length p) (length ps) bytes passes) in
      let z : r ≡ 0 =
      H.number ∙ home-good (plan_of b) (length c) g
      (le-leb (file_length (count (unimage (plan_tree (plan_of b))))) (length c) (omega (arith, l, room))) in (
        z,
        H.written z
            ∙ ap₂ (λ (x : List ℕ) (i : ℕ). x ++ drop i c)
            (planner.out-and-home b (length p) (length ps) bytes passes) l,
      )

-- "only plans that come from such a file may go home", and back again
module _ (p c : List ℕ) (r : ℕ) (c' : List ℕ) (bytes : all_below 256 p ≡ true) (H : HomeDone p c r c') where
  pub home-accepts : (r ≡ 0) ↔ (GoesHome p × (file_length (count (unimage (plan_tree p))) ≤ length c))
  home-accepts = (
    λ z. (let h = home-passes p (length c) (sym H.number ∙ z) in ((planner.home-exactly p bytes).0 h.0, h.1)),
    λ g. H.number ∙ home-good p (length c) (comes p g.0)
        (le-leb (file_length (count (unimage (plan_tree p)))) (length c) g.1),
  )

  pub out-restores-plan : r ≡ 0 → (q qs : List ℕ) (s : ℕ) (q' qs' : List ℕ) → length p ≤ length q
      → file_count (file_of p) ≤ length qs → OutDone (file_of p) q qs s q' qs' → (s ≡ 0) × (q' ≡ p ++ drop (length p) q)
  out-restores-plan z q qs s q' qs' long places D =
      let g : GoesHome p = (home-accepts.0 z).0 in
      let R = restored p g in
      let w : s ≡ 0 =
      D.number ∙ out-good (file_of p) (length q) (length qs) R.formed R.labels
      (room_fits (file_count (file_of p)) (length q) (length qs) R.few (omega (arith, R.plan_length)) places) in (
        w,
        (D.written w).plan
            ∙ ap₂ (λ (x : List ℕ) (i : ℕ). x ++ drop i q) (planner.home-and-out p g) (sym R.plan_length),
      )
