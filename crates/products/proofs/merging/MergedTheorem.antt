-- S-6: the merged table passes its checks, its run is the pair of runs, and it clears exactly what both clear.
--     merged-passes     6 to 9 pass for the merged bytes, and its counts are S1 × S2 and K
--     merged-run        on every plan
--     merged-accepts    "one table that clears exactly the plans that both clear"
use Prim.Native.Nat.{ℕ, ◌+◌, ◌*◌, ◌/◌, ◌%◌, ◌≤◌, ◌<◌}
use mathlib.Core.Path.{◌≡◌, refl, sym, ap, ap₂, ◌∙◌, subst}
use mathlib.Core.Bool.{Bool, true, false, ◌&&◌}
use mathlib.Core.List.{List}
use native.Mathlib.Omega.{arith}
use lib.Arith.{digits_div, digits_mod, digits_lt}
use lib.Dec.{eqb}
use Rattle.trees.specs.Tree.{Tree, leaf, node}
use Rattle.trees.specs.Automaton.{Automaton, root_label, run, state, accepts}
use Rattle.list_laws.specs.Rows.{tabulate}
use Rattle.list_laws.proofs.RowLaws.{length-tabulate, get_d_tabulate}
use Rattle.list_laws.specs.Tests.{all_below}
use Rattle.formats.specs.Rules.{state_count, label_count, tree_automaton, rule_automaton}
use Rattle.list_laws.proofs.TestLaws.{at-all_below}
use Rattle.formats.proofs.RuleLaws.{RulesPass}
use Rattle.products.specs.Product.{pair_tree}
use Rattle.products.specs.Plans.{PlanOf}
use Rattle.products.specs.merging.Merged.{merged_states, bit, merged_automaton, merged_leaf, merged_inner}
use Rattle.products.specs.merging.Merged.{merged_mark, merged_bytes}
use Rattle.products.proofs.RulePairs.{pair-count, pair-leaf-below, pair-step-below, pair-below, pair-run, pair-accepts}
use Rattle.products.proofs.PlanParts.{Parts, plan-parts, one_below}
use Rattle.products.proofs.merging.RuleBytesLaws.{Runs, rule_bytes-passes, rule_bytes-labels, rule_bytes-states}
use Rattle.products.proofs.merging.RuleBytesLaws.{rule_bytes-automaton}

bit_below : (b : Bool) → bit b < 2
bit_below true = omega arith
bit_below false = omega arith

bit_is : (b : Bool) → eqb (bit b) 1 ≡ b
bit_is true = refl
bit_is false = refl

tabulate-below : (n m : ℕ) (f : ℕ → ℕ) → ((i : ℕ) → i < n → f i < m) → all_below m (tabulate n f) ≡ true
tabulate-below n m f h =
    at-all_below m (tabulate n f) (λ j l. let i : j < n = omega (arith, length-tabulate n f) in
    subst (λ (x : ℕ). x < m) (sym (get_d_tabulate n f j i)) (h j i))

module _ (first second : List ℕ) (P : RulesPass first) (Q : RulesPass second) (fits : merged_states first second ≤ 16) where
  abbrev M : Automaton
  M = merged_automaton first second

  abbrev S : ℕ
  S = merged_states first second

  abbrev K : ℕ
  K = label_count first

  leaf_in : (a : ℕ) → M.ι a < S
  leaf_in = pair-leaf-below ◌&&◌ first second P Q

  step_in : (p a q : ℕ) → M.δ p a q < S
  step_in = pair-step-below ◌&&◌ first second P Q

  merged-runs : Runs S K (tabulate K (merged_leaf first second)) (tabulate (S * K * S) (merged_inner first second))
      (tabulate S (merged_mark first second))
  merged-runs = record {
    states-least = pair-count first second P Q;
    states_most = fits;
    labels_least = P.labels_least;
    labels_most = P.labels_most;
    leaves = length-tabulate K _;
    inner = length-tabulate (S * K * S) _;
    marks = length-tabulate S _;
    leaves-below = tabulate-below K S _ (λ a _. leaf_in a);
    inner_below = tabulate-below (S * K * S) S _ (λ i _. step_in _ _ _);
    marks-below = tabulate-below S 2 _ (λ c _. bit_below (M.accepting c));
  }

  pub merged-passes : RulesPass (merged_bytes first second) × (state_count (merged_bytes first second) ≡ S) × (label_count
      (merged_bytes first second) ≡ K)
  unfolding merged_bytes
  merged-passes = (rule_bytes-passes _ _ _ _ _ merged-runs, rule_bytes-states _ _ _ _ _ merged-runs, rule_bytes-labels _ _ _ _ _ merged-runs)

  abbrev N : Automaton
  N = tree_automaton S K (tabulate K (merged_leaf first second)) (tabulate (S * K * S) (merged_inner first second)) (tabulate S
      (merged_mark first second))

  bytes-automaton : rule_automaton (merged_bytes first second) ≡ N
  unfolding merged_bytes
  bytes-automaton = rule_bytes-automaton _ _ _ _ _ merged-runs

  inner-at : (p a q : ℕ) → p < S → a < K → q < S → N.δ p a q ≡ M.δ p a q
  inner-at p a q hp ha hq =
      let i : (p * K + a) * S + q < S * K * S = digits_lt (digits_lt hp ha) hq in
      let e : ((p * K + a) * S + q) / S ≡ p * K + a = digits_div (p * K + a) hq in
      let f : ((p * K + a) * S + q) % S ≡ q = digits_mod (p * K + a) hq in
      let g : (p * K + a) / K ≡ p = digits_div p ha in
      let h : (p * K + a) % K ≡ a = digits_mod p ha in
      get_d_tabulate (S * K * S) (merged_inner first second) ((p * K + a) * S + q) i
      ∙ ap₂ (λ (x y : ℕ). M.δ (x / K) (x % K) y) e f
      ∙ ap₂ (λ (x y : ℕ). M.δ x y q) g h

  below : (t : Tree) → state M t < S
  below = pair-below ◌&&◌ first second P Q

  same-run : (t : Tree) → PlanOf K t → run N t ≡ run M t
  same-run (leaf a) e = ap leaf (get_d_tabulate K (merged_leaf first second) a (one_below K a e))
  same-run (node l a r) e =
      let p : Parts K l a r = plan-parts K l a r e in
      let x : run N l ≡ run M l = same-run l p.left in
      let y : run N r ≡ run M r = same-run r p.right in
      ap₂ (λ (u v : Tree). node u (N.δ (root_label u) a (root_label v)) v) x y
      ∙ ap (λ (c : ℕ). node (run M l) c (run M r)) (inner-at (state M l) a (state M r) (below l) p.label (below r))

  pub merged-run : (t : Tree) → PlanOf K t
      → run (rule_automaton (merged_bytes first second)) t ≡ pair_tree (state_count second) (run (rule_automaton first) t) (run
      (rule_automaton second) t)
  merged-run t e =
      ap (λ (B : Automaton). run B t) bytes-automaton ∙ same-run t e ∙ pair-run ◌&&◌ first second P Q t

  pub merged-accepts : (t : Tree) → PlanOf K t
      → accepts (rule_automaton (merged_bytes first second)) t ≡ (accepts (rule_automaton first) t && accepts
      (rule_automaton second) t)
  merged-accepts t e =
      ap (λ (B : Automaton). accepts B t) bytes-automaton
      ∙ ap (λ (u : Tree). N.accepting (root_label u)) (same-run t e)
      ∙ ap (λ (x : ℕ). eqb x 1) (get_d_tabulate S (merged_mark first second) (state M t) (below t))
      ∙ bit_is (M.accepting (state M t))
      ∙ pair-accepts ◌&&◌ first second P Q t
