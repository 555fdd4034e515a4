-- "The plans decode to exactly one tree exactly when 2 to 5 pass", and the two smallest counts.
--     plan-decodes        bytes pass 2 to 5 exactly when they are the plan of a tree of at most 65,535 nodes
--     one_tree, only-tree two trees have no plan in common, so it is the tree that is read
--     one-node            N 1 is accepted with 14 bytes
--     two-nodes           N 2 gets 5, for any kinds; two-nodes-any: there are such bytes
use Prim.Native.Nat.{ℕ, zero, suc, ◌+◌, ◌≤◌}
use mathlib.Core.Path.{◌≡◌, refl, sym, ap, ◌∙◌, subst}
use mathlib.Core.Bool.{true, false}
use mathlib.Core.Logic.{◌↔◌}
use mathlib.Core.List.{List, [], ◌∷◌, ◌++◌}
use native.Mathlib.Omega.{arith}
use lib.ListN.{length, take, drop}
use lib.Seq.{take_at, drop_at}
use Rattle.trees.specs.Tree.{Tree, leaf, size, kinds_of, labels_of}
use Rattle.trees.specs.Postorder.{is_postorder}
use Rattle.trees.proofs.NodeLaws.{length-labels}
use Rattle.trees.proofs.PostorderLaws.{postorder-unique}
use Rattle.formats.specs.Bytes.{le32}
use Rattle.list_laws.specs.Tests.{all_below}
use Rattle.formats.specs.Plan.{node_count, kinds_in, plan_tree, plan_bytes}
use Rattle.formats.specs.Checks.{first_no, plan_checks}
use Rattle.list_laws.proofs.SliceLaws.{length_part}
use Rattle.formats.proofs.PlanLaws.{plan-passes, size-plan_tree}
use Rattle.formats.proofs.PlanAnswers.{plan-5}
use Rattle.formats.proofs.PlanTrees.{plan-tree, length-plan_bytes, drop-plan_bytes, tree-passes}

-- bytes pass 2 to 5 exactly when they are the plan of a tree of at most 65,535 nodes
pub plan-decodes : (p : List ℕ) → all_below 256 p ≡ true → (first_no (plan_checks p) ≡ 0) ↔ ((t : Tree) × (size t ≤ 65535) × (plan_bytes t ≡ p))
plan-decodes p bytes = (
  λ e. (plan_tree p, omega (arith, size-plan_tree p (plan-passes p e), (plan-passes p e).most), plan-tree p bytes e),
  λ w. subst (λ (l : List ℕ). first_no (plan_checks l) ≡ 0) w.2 (tree-passes w.0 w.1),
)

-- two trees have no plan in common
pub one_tree : (t u : Tree) → plan_bytes t ≡ plan_bytes u → t ≡ u
one_tree t u e =
    let n : size t ≡ size u = omega (arith, length-plan_bytes t, length-plan_bytes u, ap length e) in
    let rest : labels_of t ++ kinds_of t ≡ labels_of u ++ kinds_of u = sym (drop-plan_bytes t) ∙ ap (drop 12) e ∙ drop-plan_bytes u in
    let labels : labels_of t ≡ labels_of u =
    sym (take_at (labels_of t) (kinds_of t) (size t) (length-labels t)) ∙ ap (take (size t)) rest
    ∙ take_at (labels_of u) (kinds_of u) (size t) (length-labels u ∙ sym n) in
    let kinds : kinds_of t ≡ kinds_of u =
    sym (drop_at (labels_of t) (kinds_of t) (size t) (length-labels t)) ∙ ap (drop (size t)) rest
    ∙ drop_at (labels_of u) (kinds_of u) (size t) (length-labels u ∙ sym n) in
    postorder-unique t u kinds labels

-- so bytes that pass are the plan of one tree only: the one that is read
pub only-tree : (p : List ℕ) → all_below 256 p ≡ true → first_no (plan_checks p) ≡ 0 → (t : Tree) → plan_bytes t ≡ p → t ≡ plan_tree p
only-tree p bytes e t f = one_tree t (plan_tree p) (f ∙ sym (plan-tree p bytes e))

-- N 1 is accepted with 14 bytes, for every label
pub one-node : (a : ℕ) → (first_no (plan_checks (plan_bytes (leaf a))) ≡ 0) × (length (plan_bytes (leaf a)) ≡ 14)
one-node a = (tree-passes (leaf a) (omega arith), length-plan_bytes (leaf a))

-- no two kinds are a tree's
two-kinds : (ks : List ℕ) → length ks ≡ 2 → is_postorder ks ≡ false
unfolding is_postorder
two-kinds [] e = absurd (omega arith)
two-kinds (k ∷ []) e = absurd (omega arith)
two-kinds (k ∷ l ∷ m ∷ ks) e = absurd (omega arith)
two-kinds (zero ∷ zero ∷ []) e = refl
two-kinds (zero ∷ suc zero ∷ []) e = refl
two-kinds (zero ∷ suc (suc l) ∷ []) e = refl
two-kinds (suc zero ∷ l ∷ []) e = refl
two-kinds (suc (suc k) ∷ l ∷ []) e = refl

-- N 2 gets 5, for any labels and kinds in its 16 bytes
pub two-nodes : (p : List ℕ) → length p ≡ 16 → node_count p ≡ 2 → le32 p 4 ≡ 12 → le32 p 8 ≡ 14 → first_no (plan_checks p) ≡ 5
two-nodes p h n a b =
    let kinds : length (kinds_in p) ≡ 2 = length_part p (12 + node_count p) (node_count p) (omega arith) ∙ n in
    sym (plan-5 p (omega arith) (omega arith) (omega arith) a (omega arith) (omega arith) (two-kinds (kinds_in p) kinds))

-- there are such bytes, with any labels and any kinds
pub two-nodes-any : (a b k l : ℕ)
    → first_no (plan_checks (2 ∷ 0 ∷ 0 ∷ 0 ∷ 12 ∷ 0 ∷ 0 ∷ 0 ∷ 14 ∷ 0 ∷ 0 ∷ 0 ∷ a ∷ b ∷ k ∷ l ∷ [])) ≡ 5
two-nodes-any a b k l = two-nodes (2 ∷ 0 ∷ 0 ∷ 0 ∷ 12 ∷ 0 ∷ 0 ∷ 0 ∷ 14 ∷ 0 ∷ 0 ∷ 0 ∷ a ∷ b ∷ k ∷ l ∷ []) refl refl refl refl
