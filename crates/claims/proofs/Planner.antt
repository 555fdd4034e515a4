-- The bridge planner's files (document 02, S-2), over the promises of the two exported calls.
--     out_writes, n-becomes-2n+1   whatif_plan_of_planner: the plan and the places of the definition, 2n+1 nodes
--     out-malformed, out-no-nodes, out-label, out-room   what 19, 20 and 21 are given for
--     home-restores-file           going out and home restores the file
--     home-accepts, home-exactly   whatif_planner_of_plan accepts exactly the plans that come from a file: by trees,
--                                  and by files
--     home-writes, out-restores-plan   the file that is written; going home and out restores the plan
--     place-of-node                each number of the places' table is that node's place
-- The order of the numbers, and that a refused call alters nothing: Calls. A file is bytes: `all_below 256`.
use Prim.Native.Nat.{ℕ, ◌+◌, ◌-◌, ◌*◌, ◌≤◌, ◌<◌}
use mathlib.Core.Path.{◌≡◌, sym, ap, ◌∙◌, subst}
use mathlib.Core.Bool.{true, false}
use mathlib.Core.List.{List, ◌++◌}
use mathlib.Core.Logic.{◌↔◌}
use mathlib.Core.Option.{none, some}
use native.Mathlib.Omega.{arith}
use lib.Dec.{leb}
use lib.ListN.{length, get_or, drop, get_or-append}
use borrow.Author.Tests.{lt-leb}
use Rattle.list_laws.specs.Tests.{all_below}
use Rattle.list_laws.proofs.BoolLaws.{and-no-left, and-no-right}
use Rattle.trees.specs.Tree.{size, label_at}
use Rattle.trees.specs.Numbering.{sub}
use Rattle.formats.specs.Plan.{plan_length, plan_tree}
use Rattle.formats.proofs.PlanTrees.{tree-plan}
use Rattle.planner.specs.Siblings.{Siblings, count, image, unimage, items}
use Rattle.planner.specs.File.{file_count, file_length, label_run, file_tree, well_formed, out_room}
use Rattle.planner.specs.Conversion.{plan_of, places_of, file_of, GoesHome}
use Rattle.planner.specs.out.Out.{OutDone}
use Rattle.planner.specs.home.Home.{HomeDone}
use Rattle.planner.proofs.FileTrees.{file-tree}
use Rattle.planner.proofs.ImageLaws.{size-image, length-places, place-item}
use Rattle.planner.proofs.CheckAnswers.{OutPasses, out-passes, out-19, out-20, out-21}
use Rattle.planner.proofs.Theorems as planner
use Rattle.capi.proofs.planner_calls.Theorems as calls
use Rattle.claims.specs.PlannerFiles.{FileOf, siblings_from}
use Rattle.claims.proofs.PlannerLaws.{file-of-plan, place-subtree}

-- ---- out

module _ (b p ps : List ℕ) (n : ℕ) (q qs : List ℕ) (D : OutDone b p ps n q qs) (bytes : all_below 256 b ≡ true)
    (accepted : n ≡ 0) where
  P : OutPasses b (length p) (length ps)
  P = out-passes b (length p) (length ps) (sym D.number ∙ accepted)

  nodes : count (file_tree b) ≡ file_count b
  nodes = (file-tree b P.file bytes).nodes

  -- "A list of siblings becomes an inner node with the first one's label, its children's list at the left and the
  -- rest at the right; an empty list becomes a leaf with label 63." (`image`); what was behind both outputs is still
  -- there
  out_writes : (q ≡ plan_of b ++ drop (plan_length (2 * file_count b + 1)) p) × (qs ≡ places_of b ++ drop (file_count b) ps)
  out_writes = ((D.written accepted).plan, (D.written accepted).places)

  -- "So n nodes become 2n+1."
  n-becomes-2n+1 : (size (plan_tree (plan_of b)) ≡ 2 * file_count b + 1)
      × (length (plan_of b) ≡ plan_length (2 * file_count b + 1))
  n-becomes-2n+1 = (
    ap size (tree-plan (image (file_tree b)) (omega (arith, size-image (file_tree b), nodes, P.nodes)))
        ∙ omega (arith, size-image (file_tree b), nodes),
    planner.n-becomes-2n+1 b (length p) (length ps) bytes (sym D.number ∙ accepted),
  )

  -- "Going out, a table of 16-bit numbers tells each planner node's place in our plan.": at that place is that node
  -- (`items` lists what our nodes are, in our order), with its label, and below it the image of its children's list and
  -- of the siblings after it
  place-of-node : (v : ℕ) → v < file_count b
      → (get_or (items (file_tree b) 0) (get_or qs v 0) none ≡ some v)
      × (label_at (image (file_tree b)) (get_or qs v 0) ≡ get_or (label_run b) v 0)
      × (sub (image (file_tree b)) (get_or qs v 0) ≡ image (siblings_from (file_tree b) v))
  place-of-node v h =
      let f : Siblings = file_tree b in
      let i : v < count (file_tree b) = omega (arith, nodes) in
      let e : get_or qs v 0 ≡ get_or (places_of b) v 0 =
      ap (λ (l : List ℕ). get_or l v 0) out_writes.1
      ∙ get_or-append (places_of b) (drop (file_count b) ps) 0 v (omega (arith, length-places (file_tree b) 0)) in
      let z : get_or qs v 0 ≡ get_or (places_of b) v 0 - 0 = omega (arith, e) in
      let w : 0 + v ≡ v = omega arith in (
        ap (λ (j : ℕ). get_or (items f 0) j none) z ∙ (place-item f 0 0 v i).item ∙ ap some w,
        ap (label_at (image f)) e
            ∙ (planner.place-of-node b (length p) (length ps) bytes (sym D.number ∙ accepted) v h).0,
        ap (sub (image f)) z ∙ place-subtree f 0 v i,
      )

-- "Refused are a malformed file, n of 0 included, .. with 19, a label of 63 or more in a planner's file with 20, and n
-- above 32,767 or a short output with 21, in that order."
module _ (b p ps : List ℕ) (n : ℕ) (q qs : List ℕ) (D : OutDone b p ps n q qs) where
  out-malformed : well_formed b ≡ false → n ≡ 19
  out-malformed e = D.number ∙ out-19 b (length p) (length ps) e

  out-no-nodes : file_count b ≡ 0 → n ≡ 19
  unfolding well_formed
  out-no-nodes e =
      out-malformed (and-no-right (leb 12 (length b)) _ (and-no-left (leb 1 (file_count b)) _ (lt-leb 1 (file_count b)
      (omega arith))))

  out-label : well_formed b ≡ true → all_below 63 (label_run b) ≡ false → n ≡ 20
  out-label e f = D.number ∙ out-20 b (length p) (length ps) e f

  out-room : well_formed b ≡ true → all_below 63 (label_run b) ≡ true
      → (32767 < file_count b → n ≡ 21) × (length p < plan_length (2 * file_count b + 1) → n ≡ 21)
      × (length ps < file_count b → n ≡ 21)
  unfolding out_room
  out-room e f = (
    λ h. no_room (and-no-left (leb (file_count b) 32767) _ (lt-leb (file_count b) 32767 h)),
    λ h. no_room (and-no-right (leb (file_count b) 32767) _
        (and-no-left (leb (plan_length (2 * file_count b + 1)) (length p)) _
        (lt-leb (plan_length (2 * file_count b + 1)) (length p) h))),
    λ h. no_room (and-no-right (leb (file_count b) 32767) _
        (and-no-right (leb (plan_length (2 * file_count b + 1)) (length p)) _ (lt-leb (file_count b) (length ps) h))),
  )
    where
      no_room : out_room (file_count b) (length p) (length ps) ≡ false → n ≡ 21
      no_room g = D.number ∙ out-21 b (length p) (length ps) e f g

-- ---- out and home

-- "Going out and home must restore the planner's file"
home-restores-file : (b p ps q qs : List ℕ) → all_below 256 b ≡ true → OutDone b p ps 0 q qs
    → (c : List ℕ) (r : ℕ) (c' : List ℕ) → length b ≤ length c → HomeDone (plan_of b) c r c'
    → (r ≡ 0) × (c' ≡ b ++ drop (length b) c)
home-restores-file = calls.home-restores-file

-- ---- home

module _ (p c : List ℕ) (r : ℕ) (c' : List ℕ) (bytes : all_below 256 p ≡ true) (H : HomeDone p c r c') where
  home-accepts : (r ≡ 0) ↔ (GoesHome p × (file_length (count (unimage (plan_tree p))) ≤ length c))
  home-accepts = calls.home-accepts p c r c' bytes H

  -- what is written is the planner's file of the plan's tree, and behind it what was there
  home-writes : r ≡ 0 → c' ≡ file_of p ++ drop (file_length (count (unimage (plan_tree p)))) c
  home-writes = H.written

  -- "only plans that come from such a file may go home": where the output has room, exactly those that
  -- whatif_plan_of_planner writes for a file that it accepts
  home-exactly : (r ≡ 0) ↔ ((b : List ℕ) × FileOf p b × (length b ≤ length c))
  home-exactly = (
    λ z. (let g = home-accepts.0 z in
        let F = file-of-plan p g.0 in
        (file_of p, F.0, omega (arith, F.1, g.1))),
    λ g. (let b : List ℕ = g.0 in
        let F : FileOf p b = g.1 in
        let out : GoesHome p =
        subst GoesHome F.plan_is (planner.out-goes-home b (length p) (file_count b) F.bytes F.accepted) in
        let same : file_of p ≡ b =
        ap file_of (sym F.plan_is) ∙ planner.out-and-home b (length p) (file_count b) F.bytes F.accepted in
        home-accepts.1 (out, omega (arith, (file-of-plan p out).1, ap length same, g.2))),
  )

  -- and a plan that went home goes out from its file again, byte for byte
  out-restores-plan : r ≡ 0 → (q qs : List ℕ) (s : ℕ) (q' qs' : List ℕ) → length p ≤ length q
      → file_count (file_of p) ≤ length qs → OutDone (file_of p) q qs s q' qs' → (s ≡ 0) × (q' ≡ p ++ drop (length p) q)
  out-restores-plan = calls.out-restores-plan p c r c' bytes H
