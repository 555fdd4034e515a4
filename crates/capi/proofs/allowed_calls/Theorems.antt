-- What an accepted call on what each node may take answers, from the promise of the exported function.
--     mask-is-the-run   bit a of node v's number is 1 exactly where a fresh run of the plan with v relabelled to a
--                       clears it
--     no-other-bit      bits from K on are 0
--     own-label         the bit of a node's own label is the verdict of the plan as it is
--     masks-beyond      past the nodes nothing is changed
--     set-of-state      bit q of node v's set is 1 exactly where the plan is cleared with state q put in at v
--     set-is-the-run    for any subtree: its state is in the set exactly where the plan with it in v's place is cleared
--     no-other-state    bits from S on are 0
--     own-state         the bit of a node's own state is the verdict of the plan as it is
--     sets-beyond       past the nodes nothing is changed
--     mask-by-set       bit a of a node's mask is the bit, in its set, of the state that it gets with label a
use Prim.Native.Nat.{ℕ, ◌^◌, ◌≤◌, ◌<◌}
use mathlib.Core.Path.{◌≡◌, refl, sym, ap, ap₂, ◌∙◌, subst}
use mathlib.Core.List.{List, [], ◌∷◌, ◌++◌}
use native.Mathlib.Omega.{arith}
use lib.ListN.{length, get_or, drop, get_or-append}
use Rattle.list_laws.specs.Rows.{tabulate}
use Rattle.list_laws.proofs.RowLaws.{length-tabulate, get_d_tabulate}
use Rattle.list_laws.proofs.AppendLaws.{get_d_past}
use Rattle.trees.specs.Tree.{Tree, size}
use Rattle.trees.specs.Automaton.{state, accepts}
use Rattle.trees.specs.Numbering.{sub}
use Rattle.trees.specs.Postorder.{tree_of}
use Rattle.trees.specs.Changes.{changed}
use Rattle.trees.proofs.RunLaws.{state_below}
use Rattle.formats.specs.Plan.{node_count, labels_within, plan_tree}
use Rattle.formats.specs.Rules.{state_count, label_count, rule_automaton}
use Rattle.formats.specs.Checks.{first_no}
use Rattle.formats.specs.Passing.{PlanPasses}
use Rattle.formats.proofs.PlanLaws.{kinds-plan_tree, labels-plan_tree, size-plan_tree}
use Rattle.formats.proofs.RuleLaws.{leaf-state-below, inner-state-below}
use Rattle.formats.proofs.InputLaws.{rule-table-passes, label_below}
use Rattle.state_sets.specs.StateSets.{member}
use Rattle.state_sets.proofs.SetLaws.{set_of-below, member-set_of}
use Rattle.runs.specs.FreshRun.{root_accepted}
use Rattle.allowed.specs.Allowed.{is_allowed, allowed_set, allowed_sets}
use Rattle.allowed.specs.Clearing.{state_given, clears, clearing_set, clearing_sets, replaced, state_with}
use Rattle.allowed.specs.Answers.{node_room_checks, AllowedDone, ClearingDone}
use Rattle.allowed.proofs.InputsLaws.{table-yes}
use Rattle.allowed.proofs.ClearingLaws.{set-member}
use Rattle.allowed.proofs.Theorems as trees

-- ---- a buffer that begins with a number a node

module _ (p r : List ℕ) (m : ℕ) (e : first_no (node_room_checks p r m) ≡ 0) where
  passes : PlanPasses p
  passes = (rule-table-passes p r (table-yes p r m e)).0

  in_tree : {v : ℕ} → v < node_count p → v < size (plan_tree p)
  in_tree h = omega (arith, size-plan_tree p passes)

  init-below : (a : ℕ) → (rule_automaton r).ι a < (rule_automaton r).states
  init-below = leaf-state-below r (rule-table-passes p r (table-yes p r m e)).1

  next-below : (x a y : ℕ) → (rule_automaton r).δ x a y < (rule_automaton r).states
  next-below x a y = inner-state-below r (rule-table-passes p r (table-yes p r m e)).1 _

  module _ (f : ℕ → ℕ) (before after : List ℕ)
      (w : after ≡ tabulate (size (plan_tree p)) f ++ drop (node_count p) before) where
    number_at : (v : ℕ) → v < node_count p → get_or after v 0 ≡ f v
    number_at v h =
        ap (λ (l : List ℕ). get_or l v 0) w
        ∙ get_or-append (tabulate (size (plan_tree p)) f) (drop (node_count p) before) 0 v
        (omega (arith, length-tabulate (size (plan_tree p)) f, size-plan_tree p passes))
        ∙ get_d_tabulate (size (plan_tree p)) f v (in_tree h)

    past-nodes : (j : ℕ) → node_count p ≤ j → get_or after j 0 ≡ get_or before j 0
    past-nodes j h =
        ap (λ (l : List ℕ). get_or l j 0) w
        ∙ get_d_past (tabulate (size (plan_tree p)) f) before (node_count p) j
        (length-tabulate (size (plan_tree p)) f ∙ size-plan_tree p passes) h

-- ---- the labels that each node may take

module _ (p r before after : List ℕ) (D : AllowedDone p r before 0 after) where
  as-set : (v : ℕ) → v < node_count p
      → get_or after v 0 ≡ allowed_set (rule_automaton r) (label_count r) (plan_tree p) v
  unfolding allowed_sets
  as-set = number_at p r (length before) (sym D.number)
      (allowed_set (rule_automaton r) (label_count r) (plan_tree p)) before after (D.written refl)

  pub mask-is-the-run : (v a : ℕ) → v < node_count p → a < label_count r
      → member (get_or after v 0) a ≡ root_accepted p r (v ∷ []) (a ∷ [])
  unfolding allowed_sets
  mask-is-the-run v a hv ha =
      let P : PlanPasses p = passes p r (length before) (sym D.number) in
      let h : v < size (plan_tree p) = in_tree p r (length before) (sym D.number) hv in
      ap (λ (x : ℕ). member x a) (as-set v hv
      ∙ sym (get_d_tabulate (size (plan_tree p)) (allowed_set (rule_automaton r) (label_count r) (plan_tree p)) v h))
      ∙ trees.mask-bit (rule_automaton r) (plan_tree p) (label_count r) v a h ha
      ∙ ap₂ (λ (ks ls : List ℕ). accepts (rule_automaton r) (tree_of ks (changed ls (v ∷ []) (a ∷ []))))
      (kinds-plan_tree p P) (labels-plan_tree p P)

  pub no-other-bit : (v : ℕ) → v < node_count p → get_or after v 0 < 2 ^ label_count r
  unfolding allowed_set
  no-other-bit v h = subst (λ (x : ℕ). x < 2 ^ label_count r) (sym (as-set v h)) (set_of-below (label_count r) _)

  pub own-label : (v : ℕ) → v < node_count p
      → member (get_or after v 0) (get_or (labels_within p) v 0) ≡ accepts (rule_automaton r) (plan_tree p)
  unfolding allowed_set
  own-label v h =
      let f = rule-table-passes p r (table-yes p r (length before) (sym D.number)) in
      ap (λ (x : ℕ). member x (get_or (labels_within p) v 0)) (as-set v h)
      ∙ member-set_of (label_count r) (is_allowed (rule_automaton r) (plan_tree p) v) (get_or (labels_within p) v 0)
      (label_below p r f.1.labels_least f.2 v)
      ∙ ap (λ (l : List ℕ). is_allowed (rule_automaton r) (plan_tree p) v (get_or l v 0)) (sym (labels-plan_tree p f.0))
      ∙ trees.own-label (rule_automaton r) (plan_tree p) v (in_tree p r (length before) (sym D.number) h)

  pub masks-beyond : (j : ℕ) → node_count p ≤ j → get_or after j 0 ≡ get_or before j 0
  unfolding allowed_sets
  masks-beyond = past-nodes p r (length before) (sym D.number)
      (allowed_set (rule_automaton r) (label_count r) (plan_tree p)) before after (D.written refl)

-- ---- the states with which the plan is cleared

module _ (p r before after : List ℕ) (D : ClearingDone p r before 0 after) where
  as-clearing : (v : ℕ) → v < node_count p → get_or after v 0 ≡ clearing_set (rule_automaton r) (plan_tree p) v
  unfolding clearing_sets
  as-clearing = number_at p r (length before) (sym D.number) (clearing_set (rule_automaton r) (plan_tree p)) before after
      (D.written refl)

  pub set-of-state : (v q : ℕ) → v < node_count p → q < state_count r
      → member (get_or after v 0) q ≡ (rule_automaton r).accepting (state_given (rule_automaton r) (plan_tree p) v q)
  unfolding clears
  set-of-state v q hv hq =
      ap (λ (x : ℕ). member x q) (as-clearing v hv) ∙ set-member (rule_automaton r) (plan_tree p) v q hq

  pub set-is-the-run : (v : ℕ) (u : Tree) → v < node_count p
      → member (get_or after v 0) (state (rule_automaton r) u) ≡ accepts (rule_automaton r) (replaced (plan_tree p) v u)
  unfolding clearing_sets
  set-is-the-run v u h =
      let i : v < size (plan_tree p) = in_tree p r (length before) (sym D.number) h in
      ap (λ (x : ℕ). member x (state (rule_automaton r) u)) (as-clearing v h
      ∙ sym (get_d_tabulate (size (plan_tree p)) (clearing_set (rule_automaton r) (plan_tree p)) v i))
      ∙ trees.set-is-the-run (rule_automaton r) (plan_tree p) (init-below p r (length before) (sym D.number))
      (next-below p r (length before) (sym D.number)) v u i

  pub no-other-state : (v : ℕ) → v < node_count p → get_or after v 0 < 2 ^ state_count r
  unfolding clearing_set
  no-other-state v h = subst (λ (x : ℕ). x < 2 ^ state_count r) (sym (as-clearing v h)) (set_of-below (state_count r) _)

  pub own-state : (v : ℕ) → v < node_count p
      → member (get_or after v 0) (state (rule_automaton r) (sub (plan_tree p) v)) ≡ accepts (rule_automaton r) (plan_tree p)
  own-state v h =
      ap (λ (x : ℕ). member x (state (rule_automaton r) (sub (plan_tree p) v))) (as-clearing v h)
      ∙ set-member (rule_automaton r) (plan_tree p) v (state (rule_automaton r) (sub (plan_tree p) v))
      (state_below (rule_automaton r) (init-below p r (length before) (sym D.number))
      (next-below p r (length before) (sym D.number)) (sub (plan_tree p) v))
      ∙ trees.own-state (rule_automaton r) (plan_tree p) v (in_tree p r (length before) (sym D.number) h)

  pub sets-beyond : (j : ℕ) → node_count p ≤ j → get_or after j 0 ≡ get_or before j 0
  unfolding clearing_sets
  sets-beyond = past-nodes p r (length before) (sym D.number) (clearing_set (rule_automaton r) (plan_tree p)) before
      after (D.written refl)

-- ---- both calls on one plan

pub mask-by-set : (p r b b' c c' : List ℕ) → AllowedDone p r b 0 b' → ClearingDone p r c 0 c'
    → (v a : ℕ) → v < node_count p → a < label_count r
    → member (get_or b' v 0) a ≡ member (get_or c' v 0) (state_with (rule_automaton r) (plan_tree p) v a)
mask-by-set p r b b' c c' D E v a hv ha =
    let e : first_no (node_room_checks p r (length c)) ≡ 0 = sym E.number in
    let i : v < size (plan_tree p) = in_tree p r (length c) e hv in
    ap (λ (x : ℕ). member x a) (as-set p r b b' D v hv
    ∙ trees.allowed-by-set (rule_automaton r) (plan_tree p) (init-below p r (length c) e) (next-below p r (length c) e)
    (label_count r) v i)
    ∙ member-set_of (label_count r)
    (λ x. member (clearing_set (rule_automaton r) (plan_tree p) v) (state_with (rule_automaton r) (plan_tree p) v x)) a ha
    ∙ sym (ap (λ (x : ℕ). member x (state_with (rule_automaton r) (plan_tree p) v a)) (as-clearing p r c c' E v hv))
