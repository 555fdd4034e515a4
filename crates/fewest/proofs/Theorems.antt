-- The fewest changes: the main theorems of the call.
--     cleared-is, not-cleared-is   what is wanted: for want 1 the rules' own yes, for want 0 their no
--     every-label                  where no sets are told every node may be changed to every label
--     list-is-the-run, list-loses-the-run   put as a question to a fresh run, the list that is told is answered with
--                                           yes for
--                                  want 1, with no for want 0
--     zero-is-clear, clear-is-zero 0 exactly where the plan is as wanted already
--     no-list-is-shorter           where no sets are told, no list of changes that does it has fewer entries, repeats
--                                  or not
use Prim.Native.Nat.{ℕ, zero, suc, ◌≤◌, ◌<◌}
use mathlib.Core.Path.{◌≡◌, refl, sym, ap, ap₂, ◌∙◌}
use mathlib.Core.Bool.{Bool, true, false, cond, not, ◌&&◌}
use mathlib.Core.List.{List}
use native.Mathlib.Decide.{ℕ_discrete, dec_lt}
use native.Mathlib.Omega.{arith}
use lib.Dec.{eqb}
use lib.ListN.{length, get_or, take}
use borrow.Author.Tests.{eq-eqb, ne_eqb, not-true}
use Rattle.list_laws.specs.Tests.{all_below}
use Rattle.list_laws.proofs.BoolLaws.{and_left, and_right}
use Rattle.trees.specs.Tree.{Tree, kinds_of, labels_of}
use Rattle.trees.specs.Automaton.{state, accepts}
use Rattle.trees.specs.Postorder.{tree_of}
use Rattle.trees.specs.Changes.{changed}
use Rattle.formats.specs.Limits.{label_limit, change_limit}
use Rattle.formats.specs.Plan.{labels_within, plan_tree}
use Rattle.formats.specs.Rules.{label_count, rule_marks, rule_automaton}
use Rattle.formats.specs.Checks.{first_no, rule_table_checks}
use Rattle.formats.specs.Passing.{PlanPasses}
use Rattle.formats.proofs.RuleLaws.{RulesPass, mark-below}
use Rattle.formats.proofs.PlanLaws.{kinds-plan_tree, labels-plan_tree}
use Rattle.formats.proofs.InputLaws.{rule-table-passes}
use Rattle.state_sets.specs.StateSets.{member}
use Rattle.runs.specs.FreshRun.{root_accepted}
use Rattle.trees.proofs.NodeLaws.{length-labels, length-kinds}
use Rattle.trees.proofs.PostorderLaws.{tree-postorder, tree_of-is, tree_of-kinds, tree_of-labels}
use Rattle.trees.proofs.RunLaws.{changed-length}
use Rattle.fewest.specs.Relabelling.{every_label, stock_of, differences, Relabelling}
use Rattle.fewest.proofs.costs.ListLaws.{differences-self, differences-changed, permitted-all}
use Rattle.fewest.proofs.costs.ListLaws.{changed_below}
use Rattle.fewest.specs.Least.{no_way_out}
use Rattle.fewest.specs.Answers.{wanted_mark, wanted_automaton, may_be, FewestTold}
use Rattle.fewest.proofs.call.CallLaws.{table-yes}
use Rattle.fewest.proofs.call.EarlyLaws.{states-same, keeps-labels}

-- ---- what is wanted

-- want 1: the rules' own yes
pub cleared-is : (r : List ℕ) (want : ℕ) → (want ≡ 0 → ⊥) → (u : Tree) → accepts (wanted_automaton r want) u ≡ accepts (rule_automaton r) u
cleared-is r want h u =
    let z : wanted_mark want ≡ 1 = ap (λ (b : Bool). cond b 0 1) (ne_eqb want 0 h) in
    ap₂ (λ (q m : ℕ). eqb (get_or (rule_marks r) q 0) m) (states-same r want u) z

-- want 0: their no
pub not-cleared-is : (r : List ℕ) → RulesPass r → (u : Tree) → accepts (wanted_automaton r 0) u ≡ not (accepts (rule_automaton r) u)
not-cleared-is r R u =
    ap (λ (q : ℕ). eqb (get_or (rule_marks r) q 0) 0) (states-same r 0 u)
    ∙ other (get_or (rule_marks r) (state (rule_automaton r) u) 0) (mark-below r R (state (rule_automaton r) u))
  where
    other : (x : ℕ) → x < 2 → eqb x 0 ≡ not (eqb x 1)
    other x h = elim (ℕ_discrete x 0) [
      | yes e ↦ eq-eqb x 0 e ∙ sym (ap not (ne_eqb x 1 (λ z. omega arith)))
      | no e ↦ ne_eqb x 0 e ∙ sym (ap not (eq-eqb x 1 (omega arith)))
    ]

-- ---- where no sets of labels are told

all_to : ℕ → (ℕ → Bool) → Bool
all_to zero f = true
all_to (suc n) f = all_to n f && f n

all-at : (n : ℕ) (f : ℕ → Bool) → all_to n f ≡ true → (i : ℕ) → i < n → f i ≡ true
unfolding all_to
all-at zero f e i h = absurd (omega arith)
all-at (suc n) f e i h = elim (ℕ_discrete i n) [
  | yes q ↦ ap f q ∙ and_right (all_to n f) (f n) e
  | no q ↦ all-at n f (and_left (all_to n f) (f n) e) i (omega arith)
]

every-member : all_to 64 (member every_label) ≡ true
unfolding all_to member
every-member = refl

pub every-label : (may : List ℕ) → length may ≡ 0 → (v b : ℕ) → b < label_limit → may_be may v b ≡ true
unfolding stock_of
every-label may e v b h =
    ap (λ (c : Bool). member (cond c every_label (get_or may v 0)) b) (eq-eqb (length may) 0 e)
    ∙ all-at 64 (member every_label) every-member b h

-- ---- an accepted call

module _ (p r may : List ℕ) (want : ℕ) (work nodes labels : List ℕ) (least count : ℕ) (work' nodes' labels' : List ℕ) (least' count' : ℕ)
    (T : FewestTold p r may want work nodes labels least count 0 work' nodes' labels' least' count') where
  checked : first_no (rule_table_checks p r) ≡ 0
  checked = table-yes p r (length may) (length work) (length nodes) (length labels) (sym T.number)

  passes : PlanPasses p × RulesPass r × (all_below (label_count r) (labels_within p) ≡ true)
  passes = rule-table-passes p r checked

  -- "Put as a question they do it": what a fresh run answers
  pub list-is-the-run : (want ≡ 0 → ⊥) → least' ≤ change_limit → root_accepted p r (take least' nodes') (take least' labels') ≡ true
  list-is-the-run w h =
      let L = (T.told refl).listed h in
      sym (ap₂ (λ (ks ls : List ℕ). accepts (rule_automaton r) (tree_of ks (changed ls (take least' nodes') (take least' labels'))))
      (kinds-plan_tree p passes.0) (labels-plan_tree p passes.0))
      ∙ sym (cleared-is r want w (tree_of (kinds_of (plan_tree p)) (changed (labels_of (plan_tree p)) (take least' nodes') (take least' labels'))))
      ∙ L.does

  pub list-loses-the-run : want ≡ 0 → least' ≤ change_limit
      → root_accepted p r (take least' nodes') (take least' labels') ≡ false
  list-loses-the-run w h =
      let L = (T.told refl).listed h in
      let u : Tree = tree_of (kinds_of (plan_tree p)) (changed (labels_of (plan_tree p)) (take least' nodes') (take least' labels')) in
      sym (ap₂ (λ (ks ls : List ℕ). accepts (rule_automaton r) (tree_of ks (changed ls (take least' nodes') (take least' labels'))))
      (kinds-plan_tree p passes.0) (labels-plan_tree p passes.0))
      ∙ not-true (accepts (rule_automaton r) u)
      (sym (not-cleared-is r passes.1 u) ∙ sym (ap (λ (x : ℕ). accepts (wanted_automaton r x) u) w) ∙ L.does)

  -- 0 exactly where the plan is as wanted already
  pub zero-is-clear : least' ≡ 0 → accepts (wanted_automaton r want) (plan_tree p) ≡ true
  unfolding changed
  zero-is-clear e =
      let L = (T.told refl).listed (omega arith) in
      sym (ap (accepts (wanted_automaton r want)) (tree_of-is (plan_tree p)))
      ∙ sym (ap (λ (m : ℕ). accepts (wanted_automaton r want)
      (tree_of (kinds_of (plan_tree p)) (changed (labels_of (plan_tree p)) (take m nodes') (take m labels')))) e)
      ∙ L.does

  pub clear-is-zero : accepts (wanted_automaton r want) (plan_tree p) ≡ true → least' ≡ 0
  clear-is-zero c =
      let R : Relabelling (label_count r) (may_be may) (plan_tree p) (plan_tree p) = keeps-labels p r may checked in
      elim (dec_lt least' no_way_out) [
        | yes h ↦ (let z = ((T.told refl).way h).least (plan_tree p) R c in omega (arith, z, differences-self (labels_of (plan_tree p))))
        | no h ↦ absurd (((T.told refl).no_way (omega arith)).1 (plan_tree p) R c)
      ]

  -- every list of changes that does it, repeats or not, has as many entries or more
  pub no-list-is-shorter : length may ≡ 0 → (vs bs : List ℕ) → all_below (label_count r) bs ≡ true
      → accepts (wanted_automaton r want) (tree_of (kinds_of (plan_tree p)) (changed (labels_of (plan_tree p)) vs bs)) ≡ true
      → least' ≤ length vs
  no-list-is-shorter e vs bs hb c =
      let t : Tree = plan_tree p in
      let ls : List ℕ = changed (labels_of (plan_tree p)) vs bs in
      let long : length (changed (labels_of (plan_tree p)) vs bs) ≡ length (kinds_of (plan_tree p)) =
      changed-length (labels_of (plan_tree p)) vs bs ∙ length-labels (plan_tree p) ∙ sym (length-kinds (plan_tree p)) in
      let q : labels_of (tree_of (kinds_of (plan_tree p)) ls) ≡ ls = tree_of-labels (kinds_of (plan_tree p)) ls long (tree-postorder (plan_tree p)) in
      let inside : all_below (label_count r) ls ≡ true = changed_below (label_count r) (labels_of (plan_tree p)) vs bs
      (ap (all_below (label_count r)) (labels-plan_tree p passes.0) ∙ passes.2) hb in
      let R : Relabelling (label_count r) (may_be may) (plan_tree p) (tree_of (kinds_of (plan_tree p)) ls) = record {
        kinds = tree_of-kinds (kinds_of (plan_tree p)) ls long (tree-postorder (plan_tree p));
        labels = permitted-all (label_count r) (may_be may) (λ v b h. every-label may e v b (omega (arith, passes.1.labels_most))) 0
            (labels_of (plan_tree p)) (labels_of (tree_of (kinds_of (plan_tree p)) ls)) (ap (all_below (label_count r)) q ∙ inside);
      } in
      elim (dec_lt least' no_way_out) [
        | yes h ↦ omega (
          arith,
          ((T.told refl).way h).least (tree_of (kinds_of (plan_tree p)) ls) R c,
          ap (differences (labels_of (plan_tree p))) q,
          differences-changed (labels_of (plan_tree p)) vs bs,
        )
        | no h ↦ absurd (((T.told refl).no_way (omega arith)).1 (tree_of (kinds_of (plan_tree p)) ls) R c)
      ]
