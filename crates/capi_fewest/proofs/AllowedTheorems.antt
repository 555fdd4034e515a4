-- The fewest changes and the allowed labels of one plan.
--     one-is-allowed   where the least number is 1, the change that is told is a bit of the masks
--     allowed-is-one   where a bit of the masks is 1, and the change is permitted, the least number is at most 1
-- So a panel may ask for the masks first: a plan that is not cleared has a way of one change exactly where some
-- permitted bit is 1.
use Prim.Native.Nat.{ℕ, ◌+◌, ◌≤◌, ◌<◌}
use mathlib.Core.Path.{◌≡◌, refl, sym, ap, ap₂, ◌∙◌, subst}
use mathlib.Core.Bool.{true}
use mathlib.Core.List.{List, [], ◌∷◌}
use native.Mathlib.Decide.{dec_lt}
use native.Mathlib.Omega.{arith}
use lib.Dec.{ltb}
use lib.ListN.{length, get_or, set, take}
use borrow.Author.Tests.{ltb-true}
use Rattle.list_laws.specs.Tests.{all_below}
use Rattle.list_laws.proofs.BoolLaws.{and_left}
use Rattle.trees.specs.Tree.{Tree, size, kinds_of, labels_of}
use Rattle.trees.specs.Automaton.{accepts}
use Rattle.trees.specs.Postorder.{tree_of}
use Rattle.trees.specs.Changes.{changed}
use Rattle.trees.proofs.NodeLaws.{length-labels, length-kinds}
use Rattle.trees.proofs.PostorderLaws.{tree-postorder, tree_of-kinds, tree_of-labels}
use Rattle.trees.proofs.RunLaws.{changed-length}
use Rattle.formats.specs.Plan.{node_count, labels_within, plan_tree}
use Rattle.formats.specs.Rules.{label_count, rule_automaton}
use Rattle.formats.specs.Passing.{PlanPasses}
use Rattle.formats.proofs.RuleLaws.{RulesPass}
use Rattle.formats.proofs.PlanLaws.{kinds-plan_tree, labels-plan_tree, size-plan_tree}
use Rattle.formats.proofs.InputLaws.{rule-table-passes}
use Rattle.state_sets.specs.StateSets.{member}
use Rattle.runs.specs.FreshRun.{root_accepted}
use Rattle.allowed.specs.Answers.{AllowedDone}
use Rattle.capi.proofs.allowed_calls.Theorems.{mask-is-the-run}
use Rattle.fewest.specs.Relabelling.{differences, permitted, Relabelling}
use Rattle.fewest.proofs.costs.ListLaws.{differences-changed, permitted-set}
use Rattle.fewest.specs.Answers.{wanted_automaton, may_be, ListTold, FewestTold}
use Rattle.fewest.proofs.call.CallLaws.{table-yes}
use Rattle.fewest.proofs.Theorems.{cleared-is, list-is-the-run}

-- a list of one
one_of : (xs : List ℕ) → length (take 1 xs) ≡ 1 → take 1 xs ≡ get_or xs 0 0 ∷ []
one_of [] e = absurd (omega arith)
one_of (x ∷ xs) e = refl

first_below : (n x : ℕ) → all_below n (x ∷ []) ≡ true → x < n
unfolding all_below
first_below n x e = ltb-true x n (and_left (ltb x n) true e)

module _ (p r may : List ℕ) (want : ℕ) (w : want ≡ 0 → ⊥) (work nodes labels : List ℕ) (least count : ℕ) (work' nodes' labels' : List ℕ)
    (least' count' : ℕ) (T : FewestTold p r may want work nodes labels least count 0 work' nodes' labels' least' count')
    (before after : List ℕ) (D : AllowedDone p r before 0 after) where
  passes : PlanPasses p × RulesPass r × (all_below (label_count r) (labels_within p) ≡ true)
  passes = rule-table-passes p r (table-yes p r (length may) (length work) (length nodes) (length labels) (sym T.number))

  pub one-is-allowed : least' ≡ 1 → member (get_or after (get_or nodes' 0 0) 0) (get_or labels' 0 0) ≡ true
  one-is-allowed e =
      let L : ListTold (wanted_automaton r want) (label_count r) (may_be may) (plan_tree p) 1 (take 1 nodes') (take 1 labels') =
      subst (λ (m : ℕ). ListTold (wanted_automaton r want) (label_count r) (may_be may) (plan_tree p) m (take m nodes') (take m labels')) e
      ((T.told refl).listed (omega arith)) in
      let n : take 1 nodes' ≡ get_or nodes' 0 0 ∷ [] = one_of nodes' L.nodes_number in
      let l : take 1 labels' ≡ get_or labels' 0 0 ∷ [] = one_of labels' L.labels_number in
      let hv : get_or nodes' 0 0 < size (plan_tree p) =
      first_below (size (plan_tree p)) (get_or nodes' 0 0) (ap (all_below (size (plan_tree p))) (sym n) ∙ L.nodes_in) in
      let ha : get_or labels' 0 0 < label_count r =
      first_below (label_count r) (get_or labels' 0 0) (ap (all_below (label_count r)) (sym l) ∙ L.labels_in) in
      mask-is-the-run p r before after D (get_or nodes' 0 0) (get_or labels' 0 0) (omega (arith, size-plan_tree p passes.0)) ha
      ∙ sym (ap₂ (λ (x y : List ℕ). root_accepted p r x y) n l)
      ∙ sym (ap (λ (m : ℕ). root_accepted p r (take m nodes') (take m labels')) e)
      ∙ list-is-the-run p r may want work nodes labels least count work' nodes' labels' least' count' T w (omega arith)

  pub allowed-is-one : (v a : ℕ) → v < node_count p → a < label_count r → may_be may v a ≡ true → member (get_or after v 0) a ≡ true → least' ≤ 1
  unfolding changed
  allowed-is-one v a hv ha m b =
      let t : Tree = plan_tree p in
      let ls : List ℕ = set (labels_of (plan_tree p)) v a in
      let long : length (changed (labels_of (plan_tree p)) (v ∷ []) (a ∷ [])) ≡ length (kinds_of (plan_tree p)) =
      changed-length (labels_of (plan_tree p)) (v ∷ []) (a ∷ []) ∙ length-labels (plan_tree p) ∙ sym (length-kinds (plan_tree p)) in
      let q : labels_of (tree_of (kinds_of (plan_tree p)) ls) ≡ ls = tree_of-labels (kinds_of (plan_tree p)) ls long (tree-postorder (plan_tree p)) in
      let inside : all_below (label_count r) (labels_of (plan_tree p)) ≡ true =
      ap (all_below (label_count r)) (labels-plan_tree p passes.0) ∙ passes.2 in
      let z : 0 + v ≡ v = omega arith in
      let R : Relabelling (label_count r) (may_be may) (plan_tree p) (tree_of (kinds_of (plan_tree p)) ls) = record {
        kinds = tree_of-kinds (kinds_of (plan_tree p)) ls long (tree-postorder (plan_tree p));
        labels = ap (permitted (label_count r) (may_be may) 0 (labels_of (plan_tree p))) q
            ∙ permitted-set (label_count r) (may_be may) 0 (labels_of (plan_tree p)) v a inside ha (ap (λ (x : ℕ). may_be may x a) z ∙ m);
      } in
      let c : accepts (wanted_automaton r want) (tree_of (kinds_of (plan_tree p)) ls) ≡ true =
      cleared-is r want w (tree_of (kinds_of (plan_tree p)) ls)
      ∙ ap₂ (λ (ks bs : List ℕ). accepts (rule_automaton r) (tree_of ks (changed bs (v ∷ []) (a ∷ []))))
      (kinds-plan_tree p passes.0) (labels-plan_tree p passes.0)
      ∙ sym (mask-is-the-run p r before after D v a hv ha) ∙ b in
      elim (dec_lt least' 65536) [
        | yes h ↦ omega (
          arith,
          ((T.told refl).way h).least (tree_of (kinds_of (plan_tree p)) ls) R c,
          ap (differences (labels_of (plan_tree p))) q,
          differences-changed (labels_of (plan_tree p)) (v ∷ []) (a ∷ []),
        )
        | no h ↦ absurd (((T.told refl).no_way (omega arith)).1 (tree_of (kinds_of (plan_tree p)) ls) R c)
      ]
