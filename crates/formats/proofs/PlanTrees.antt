-- From a plan to its tree and back, from a tree to its plan and back.
--     five-runs           a plan, or another file of this layout, in its five runs
--     plan-tree           plan_bytes (plan_tree p) is p again, where p passes 2 to 5
--     plan_bytes-passes    the plan of a tree of at most 65,535 nodes passes
--     tree-plan           plan_tree (plan_bytes t) is t again
-- Not here: the theorems (PlanTheorems).
use Prim.Native.Nat.{ℕ, ◌+◌, ◌*◌, ◌≤◌, ◌<◌}
use mathlib.Core.Path.{◌≡◌, refl, sym, ap, ap₂, ◌∙◌}
use mathlib.Core.Bool.{true}
use mathlib.Core.List.{List, ◌++◌}
use native.Mathlib.Omega.{arith}
use lib.ListN.{length, get_or, take, drop, length-append, length-drop}
use lib.Seq.{take_all, take_at, drop_at, drop-drop}
use Rattle.trees.specs.Tree.{Tree, size, kinds_of, labels_of}
use Rattle.trees.specs.Postorder.{is_postorder, tree_of}
use Rattle.trees.proofs.NodeLaws.{size-pos, length-kinds, length-labels}
use Rattle.trees.proofs.PostorderLaws.{tree-postorder, tree_of-is}
use Rattle.formats.specs.Bytes.{le32, le32_bytes}
use Rattle.list_laws.specs.Tests.{all_below}
use Rattle.formats.specs.Plan.{node_count, plan_length, labels_within, kinds_in, plan_tree, plan_bytes}
use Rattle.formats.specs.Checks.{first_no, plan_checks}
use Rattle.formats.proofs.ByteLaws.{bytes-number, read-bytes}
use Rattle.list_laws.proofs.TestLaws.{all_below-all}
use Rattle.list_laws.proofs.SliceLaws.{rest-cut, append-both}
use Rattle.formats.proofs.PlanLaws.{plan-passes, passes-plan, kinds-plan_tree, labels-plan_tree, size-plan_tree}
use Rattle.formats.specs.Passing.{PlanPasses}

-- ---- from a plan to its tree and back

-- a plan in its five runs
pub five-runs : (p : List ℕ) (n : ℕ) → length p ≡ 12 + 2 * n
    → p ≡ take 4 p ++ (take 4 (drop 4 p) ++ (take 4 (drop 8 p) ++ (take n (drop 12 p) ++ take n (drop (12 + n) p))))
five-runs p n h =
    rest-cut p 0 4 4 refl
    ∙ ap (λ (t : List ℕ). take 4 p ++ t)
    (rest-cut p 4 4 8 refl
    ∙ ap (λ (t : List ℕ). take 4 (drop 4 p) ++ t)
    (rest-cut p 8 4 12 refl
    ∙ ap (λ (t : List ℕ). take 4 (drop 8 p) ++ t)
    (rest-cut p 12 n (12 + n) refl
    ∙ ap (λ (t : List ℕ). take n (drop 12 p) ++ t) (sym (take_all n (drop (12 + n) p) (simp length-drop (omega arith)))))))

-- the plan of a tree from its five runs
module _ (a b c d e : List ℕ) (t : Tree) where
  plan-runs : le32_bytes (size t) ≡ a → le32_bytes 12 ≡ b → le32_bytes (12 + size t) ≡ c → labels_of t ≡ d → kinds_of t ≡ e
      → plan_bytes t ≡ a ++ (b ++ (c ++ (d ++ e)))
  unfolding plan_bytes
  plan-runs p q r s u = append-both p (append-both q (append-both r (append-both s u)))

-- where 2 to 5 pass, the bytes are the plan of the tree that is read
module _ (p : List ℕ) (bytes : all_below 256 p ≡ true) where
  below : (i : ℕ) → get_or p i 0 < 256
  below i = all_below-all 256 p bytes (omega arith) i

  pub plan-tree : first_no (plan_checks p) ≡ 0 → plan_bytes (plan_tree p) ≡ p
  plan-tree e =
      let h : PlanPasses p = plan-passes p e in
      let n : size (plan_tree p) ≡ node_count p = size-plan_tree p h in
      plan-runs (take 4 p) (take 4 (drop 4 p)) (take 4 (drop 8 p)) (labels_within p) (kinds_in p) (plan_tree p)
      (ap le32_bytes n ∙ read-bytes p below 0 (omega (arith, h.long)))
      (ap le32_bytes (sym h.labels_at) ∙ read-bytes p below 4 (omega (arith, h.long)))
      (ap (λ (i : ℕ). le32_bytes (12 + i)) n ∙ ap le32_bytes (sym h.kinds_at) ∙ read-bytes p below 8 (omega (arith, h.long)))
      (labels-plan_tree p h)
      (kinds-plan_tree p h)
      ∙ sym (five-runs p (node_count p) h.exact)

-- ---- from a tree to its plan and back

module _ (t : Tree) where
  pub length-plan_bytes : length (plan_bytes t) ≡ plan_length (size t)
  unfolding plan_bytes
  length-plan_bytes = omega (arith, length-append (labels_of t) (kinds_of t), length-labels t, length-kinds t)

  pub drop-plan_bytes : drop 12 (plan_bytes t) ≡ labels_of t ++ kinds_of t
  unfolding plan_bytes
  drop-plan_bytes = refl

  offset-plan_bytes : le32 (plan_bytes t) 4 ≡ 12
  unfolding plan_bytes
  offset-plan_bytes = refl

  module _ (h : size t ≤ 65535) where
    pub count-plan_bytes : node_count (plan_bytes t) ≡ size t
    unfolding plan_bytes
    count-plan_bytes = bytes-number (size t) (omega arith)

    kinds-plan_bytes : le32 (plan_bytes t) 8 ≡ 12 + size t
    unfolding plan_bytes
    kinds-plan_bytes = bytes-number (12 + size t) (omega arith)

    pub labels_within-plan_bytes : labels_within (plan_bytes t) ≡ labels_of t
    labels_within-plan_bytes =
        ap₂ (λ (i : ℕ) (l : List ℕ). take i l) count-plan_bytes drop-plan_bytes ∙ take_at (labels_of t) (kinds_of t) (size t) (length-labels t)

    pub kinds_in-plan_bytes : kinds_in (plan_bytes t) ≡ kinds_of t
    kinds_in-plan_bytes =
        let p : List ℕ = plan_bytes t in
        ap (λ (i : ℕ). take i (drop (12 + i) p)) count-plan_bytes
        ∙ ap (take (size t)) (sym (drop-drop (size t) 12 p) ∙ ap (drop (size t)) drop-plan_bytes ∙ drop_at (labels_of t) (kinds_of t) (size t) (length-labels t))
        ∙ take_all (size t) (kinds_of t) (omega (arith, length-kinds t))

    pub plan_bytes-passes : PlanPasses (plan_bytes t)
    plan_bytes-passes =
        record {
          long = omega (arith, length-plan_bytes);
          least = omega (arith, count-plan_bytes, size-pos t);
          most = omega (arith, count-plan_bytes);
          labels_at = offset-plan_bytes;
          kinds_at = omega (arith, kinds-plan_bytes, count-plan_bytes);
          exact = omega (arith, length-plan_bytes, count-plan_bytes);
          postorder = ap is_postorder kinds_in-plan_bytes ∙ tree-postorder t;
        }

    pub tree-passes : first_no (plan_checks (plan_bytes t)) ≡ 0
    tree-passes = passes-plan (plan_bytes t) plan_bytes-passes

    pub tree-plan : plan_tree (plan_bytes t) ≡ t
    tree-plan = ap₂ tree_of kinds_in-plan_bytes labels_within-plan_bytes ∙ tree_of-is t
