-- The fewest changes that clear a plan: the main theorems.
--     fewest-is-least     where it is below far, `fewest` is the least number of changed labels over ALL relabellings
--                         that are cleared, and the tree that is shown has it
--     none-clears         where it is far, and far is above the number of nodes, no relabelling whatever is cleared
--     shown-clears        as a list of changes: so many nodes, different, in the plan, with labels below k; the changed
--                         plan is cleared
use Prim.Native.Nat.{ℕ, ◌≤◌, ◌<◌}
use mathlib.Core.Path.{◌≡◌, refl, sym, ap, ◌∙◌}
use mathlib.Core.Bool.{Bool, true, false, cond}
use mathlib.Core.List.{List}
use native.Mathlib.Omega.{arith}
use lib.ListN.{length}
use Rattle.list_laws.specs.Tests.{all_below, distinct}
use Rattle.trees.specs.Tree.{Tree, size, kinds_of, labels_of}
use Rattle.trees.specs.Automaton.{state, accepts}
use Rattle.trees.specs.Postorder.{tree_of}
use Rattle.trees.specs.Changes.{changed}
use Rattle.trees.proofs.NodeLaws.{length-labels}
use Rattle.trees.proofs.PostorderLaws.{tree_of-is}
use Rattle.trees.proofs.RunLaws.{state_below}
use Rattle.questions.specs.ready.StaysInside.{StaysInside}
use Rattle.fewest.specs.Relabelling.{differences, Relabelling, changed_nodes, changed_labels}
use Rattle.fewest.specs.Least.{place_of_least}
use Rattle.fewest.specs.inner.Cost.{Problem, cost, witness}
use Rattle.fewest.specs.Fewest.{IsFewest, NoneClears, clearing_cost, fewest, cleared_tree}
use Rattle.fewest.proofs.costs.LeastLaws.{least-le, Found, least-found}
use Rattle.fewest.proofs.costs.ListLaws.{differences-most}
use Rattle.fewest.proofs.costs.ListLaws.{changes-number, changes-paired, changes-make, changes-in}
use Rattle.fewest.proofs.costs.ListLaws.{changes-distinct, changes-labels}
use Rattle.fewest.proofs.costs.CostLaws.{same_shape, same-kinds, same_length, cost-least, Attained}
use Rattle.fewest.proofs.costs.CostLaws.{cost-attained}

module _ (P : Problem) (S : StaysInside P.automaton) (t : Tree) where
  -- no relabelling that is cleared has fewer differences
  pub fewest-le : (u : Tree) → Relabelling P.labels P.may t u → accepts P.automaton u ≡ true
      → fewest P t ≤ differences (labels_of t) (labels_of u)
  unfolding fewest clearing_cost
  fewest-le u R c =
      let e : clearing_cost P t (state P.automaton u) ≡ cost P t 0 (state P.automaton u) =
      ap (λ (b : Bool). cond b (cost P t 0 (state P.automaton u)) P.far) c in
      omega (
        arith,
        least-le P.far P.automaton.states (clearing_cost P t) (state P.automaton u)
            (state_below P.automaton S.init S.next u),
        e,
        cost-least P S t u (same_shape t u R.kinds) 0 R.labels,
      )

  pub fewest-is-least : fewest P t < P.far → IsFewest P.automaton P.labels P.may t (fewest P t)
  unfolding fewest clearing_cost cleared_tree
  fewest-is-least h =
      let s : ℕ = place_of_least P.far P.automaton.states (clearing_cost P t) in
      let F : Found P.far P.automaton.states (clearing_cost P t) s =
      least-found P.far P.automaton.states (clearing_cost P t) h in
      let C = chosen (P.automaton.accepting s) (cost P t 0 s) (omega (arith, F.is)) in
      let A : Attained P t 0 s (witness P t 0 s) = cost-attained P t 0 s (omega (arith, F.is, C.1)) in
      record {
        tree = cleared_tree P t;
        allowed = record { kinds = same-kinds t (witness P t 0 s) A.shape; labels = A.allowed };
        cleared = ap P.automaton.accepting A.ends ∙ C.0;
        number = A.number ∙ sym C.1 ∙ F.is;
        least = λ u R c. fewest-le u R c;
      }
    where
      chosen : (c : Bool) (x : ℕ) → cond c x P.far < P.far → (c ≡ true) × (cond c x P.far ≡ x)
      chosen true x h = (refl, refl)
      chosen false x h = absurd (omega arith)

  pub none-clears : size t < P.far → fewest P t ≡ P.far → NoneClears P.automaton P.labels P.may t
  none-clears n e u R c =
      omega (arith, fewest-le u R c, differences-most (labels_of t) (labels_of u), length-labels t)

  -- ---- the list that is shown

  -- what the call tells: m entries, each for another node
  pub record ClearingList (m : ℕ) (vs bs : List ℕ) : Type 0 where
    pub nodes_number : length vs ≡ m
    pub labels_number : length bs ≡ m
    pub nodes_in : all_below (size t) vs ≡ true
    pub nodes-differ : distinct vs ≡ true
    pub labels_in : all_below P.labels bs ≡ true
    pub clears : accepts P.automaton (tree_of (kinds_of t) (changed (labels_of t) vs bs)) ≡ true

  pub shown-clears : fewest P t < P.far → ClearingList (fewest P t) (changed_nodes 0 (labels_of t) (labels_of (cleared_tree P t)))
      (changed_labels (labels_of t) (labels_of (cleared_tree P t)))
  unfolding fewest-is-least
  shown-clears h =
      let I : IsFewest P.automaton P.labels P.may t (fewest P t) = fewest-is-least h in
      let u : Tree = cleared_tree P t in
      let ls : List ℕ = labels_of t in
      let bs : List ℕ = labels_of (cleared_tree P t) in
      let long : length (labels_of t) ≡ length (labels_of (cleared_tree P t)) =
      same_length t (cleared_tree P t) (same_shape t (cleared_tree P t) I.allowed.kinds) in
      let n : length (changed_nodes 0 ls bs) ≡ fewest P t = changes-number 0 ls bs ∙ I.number in
      record {
        nodes_number = n;
        labels_number = changes-paired 0 ls bs ∙ n;
        nodes_in = changes-in 0 (size t) ls bs (omega (arith, length-labels t));
        nodes-differ = changes-distinct 0 ls bs;
        labels_in = changes-labels P.labels P.may 0 ls bs I.allowed.labels;
        clears = ap (λ (x : List ℕ). accepts P.automaton (tree_of (kinds_of t) x)) (changes-make ls bs long)
            ∙ ap (λ (x : List ℕ). accepts P.automaton (tree_of x bs)) (sym I.allowed.kinds)
            ∙ ap (accepts P.automaton) (tree_of-is u) ∙ I.cleared;
      }
