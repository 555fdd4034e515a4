-- Inputs as built, as the questions layer reads them.
--     tree-size, cells    on inputs as built the tree has N nodes, and the node table's cells are the tree's
--     states-some         there is a state
--     states-small        states below s, of any root
--     reads               settled inputs are what the rule of a part reads
use Rattle.std.proofs.Common.{◌≡◌, ℕ, suc, ◌+◌, ◌*◌, ◌<◌, Bool, true, false, cond, ◌&&◌, eqb, ltb, List, [], ◌∷◌, length, get_or, take, drop, set, sym, refl, ap, ◌∙◌, subst, ap₂, arith, take_all, get_or-set_other, get_or-set_same, ltb-true}
use native.Mathlib.Decide.{ℕ_discrete, dec_lt}
use lib.Seq.{set_out}
use Rattle.trees.specs.Tree.{Tree, size}
use Rattle.trees.specs.Changes.{changed}
use Rattle.list_laws.specs.Tests.{all_below}
use Rattle.formats.specs.Plan.{plan_tree, labels_within}
use Rattle.formats.specs.Rules.{state_count, label_count}
use Rattle.formats.specs.Checks.{node_table_length}
use Rattle.list_laws.proofs.TestLaws.{all_below-all}
use Rattle.formats.proofs.PlanLaws.{size-plan_tree, kinds-plan_tree, labels-plan_tree}
use Rattle.formats.specs.Passing.{PlanPasses, Built}
use Rattle.formats.proofs.RuleLaws.{RulesPass, leaf-state-below, inner-state-below}
use Rattle.formats.proofs.InputLaws.{ListPasses, list-passes, label_below}
use Rattle.tables.specs.node_tables.NodeCells.{NodeCells}
use Rattle.tables.proofs.node_tables.CellLaws.{link-cells, length-node_table_of}
use Rattle.questions.specs.ready.Parts.{Part, states_of, state_of}
use Rattle.questions.specs.Promises.{Reads}
use Rattle.formats.specs.Inputs.{Inputs, Sizes, used_node_table, used_state_table, states_below}
use Rattle.formats.proofs.InputsLaws.{node-table-built, plan-of, rules-of, labels-of, Same, same-node-inputs}
use Rattle.questions.specs.PartInputs.{given_of, view_by, SettledInputs}

-- ---- the node table

module _ (z : Sizes) (x : Inputs) (B : Built z x) where
  pub tree-size : z.n ≡ size (plan_tree x.plan)
  tree-size = sym (size-plan_tree x.plan (plan-of z x B) ∙ B.n_is)

  -- the node table in use is that of the definition, so their cells are the tree's
  pub cells : NodeCells (plan_tree x.plan) (used_node_table z x)
  cells =
      link-cells (plan_tree x.plan) (size (plan_tree x.plan)) (used_node_table z x) refl
      (take_all (node_table_length (size (plan_tree x.plan))) (used_node_table z x)
      (let e : length (used_node_table z x) ≡ size (plan_tree x.plan) * 4 = ap length B.node_table ∙ length-node_table_of (plan_tree x.plan) in omega arith)
      ∙ B.node_table)

  -- there is a state
  pub states-some : 0 < z.s
  states-some = omega (arith, (rules-of z x B).states-least, B.s_is)

-- ---- what an advance reads

-- labels changed to labels below k are below k, at every index
changed_below : (k : ℕ) (ls vs bs : List ℕ) → 0 < k → ((j : ℕ) → get_or ls j 0 < k) → ((j : ℕ) → get_or bs j 0 < k) → (j : ℕ)
    → get_or (changed ls vs bs) j 0 < k
unfolding changed
changed_below k ls [] bs h a b j = a j
changed_below k ls (v ∷ vs) [] h a b j = a j
changed_below k ls (v ∷ vs) (c ∷ bs) h a b j = changed_below k (set ls v c) vs bs h (λ i. one i) (λ i. b (suc i)) j
  where
    one : (i : ℕ) → get_or (set ls v c) i 0 < k
    one i = elim (ℕ_discrete i v) [
      | no n ↦ rw (get_or-set_other ls v i c 0 n) (a i)
      | yes e ↦ elim (dec_lt v (length ls)) [
        | yes l ↦ rw (e, get_or-set_same ls v c 0 l) (b 0)
        | no l ↦ rw (set_out ls v c (omega arith)) (a i)
      ]
    ]

pub states-small : (s : ℕ) (ps : List Part) → 0 < s → all_below s (states_of ps) ≡ true → (x : ℕ) → state_of ps x < s
unfolding all_below state_of
states-small s [] h e x = h
states-small s (p ∷ ps) h e x = go (ltb p.state s) refl e (states-small s ps h)
  where
    go : (b : Bool) → ltb p.state s ≡ b → (b && all_below s (states_of ps)) ≡ true
        → (all_below s (states_of ps) ≡ true → (x : ℕ) → state_of ps x < s) → cond (eqb p.node x) p.state (state_of ps x) < s
    go true q f ih = either (eqb p.node x)
      where
        either : (c : Bool) → cond c p.state (state_of ps x) < s
        either true = ltb-true p.state s q
        either false = ih f x
    go false q f ih = absurd (let z : ◌≡◌ {A = ℕ} 0 1 = cc in omega arith)

module _ (z : Sizes) (y : Inputs) (vs bs : List ℕ) (x : Inputs) (F : SettledInputs z y vs bs x) where
  B : Built z y
  B = node-table-built z y F.built

  S : Same z y x
  S = same-node-inputs z y x F.same

  t : Tree
  t = plan_tree y.plan

  pp : PlanPasses y.plan
  pp = plan-of z y B

  rp : RulesPass y.rules
  rp = rules-of z y B

  lp : ListPasses z.n z.k vs bs
  lp = list-passes z.n z.k vs bs F.listed

  k-pos : 0 < z.k
  k-pos = omega (arith, rp.labels_least, B.k_is)

  s-pos : 0 < z.s
  s-pos = states-some z y B

  plan-labels : (j : ℕ) → get_or (labels_within y.plan) j 0 < z.k
  plan-labels j =
      omega (arith, B.k_is, label_below y.plan y.rules rp.labels_least (labels-of z y B) j)

  -- the rule for left p, label a, right q, where the table names m states and l labels
  ruled : ℕ → ℕ → ℕ → ℕ → ℕ → List ℕ → ℕ
  ruled p a q m l r = get_or (take (m * l * m) (drop (20 + l) r)) ((p * l + a) * m + q) 0

  inner-same : (p a q : ℕ)
      → ruled p a q (state_count y.rules) (label_count y.rules) y.rules ≡ ruled p a q z.s z.k x.rules
  inner-same p a q =
      ap₂ (λ (m l : ℕ). ruled p a q m l y.rules) B.s_is B.k_is ∙ ap (ruled p a q z.s z.k) S.rules

  state-table-small : (j : ℕ) → get_or (used_state_table z x) j 0 < z.s
  unfolding states_below
  state-table-small j = all_below-all z.s (used_state_table z x) F.below s-pos j

  pub reads : Reads (view_by z x) (given_of z y x vs bs)
  unfolding given_of ruled
  reads = record {
    count = tree-size z y B;
    labels = ap₂ (λ (n : ℕ) (p : List ℕ). take n (drop 12 p)) (sym B.n_is) (sym S.plan) ∙ sym (labels-plan_tree y.plan pp);
    kinds = ap₂ (λ (n : ℕ) (p : List ℕ). take n (drop (12 + n) p)) (sym B.n_is) (sym S.plan) ∙ sym (kinds-plan_tree y.plan pp);
    cells = subst (λ (l : List ℕ). NodeCells (plan_tree y.plan) l) S.node_table (cells z y B);
    states = B.s_is;
    leaf = λ a. ap₂ (λ (k : ℕ) (r : List ℕ). get_or (take k (drop 20 r)) a 0) B.k_is S.rules;
    inner = λ p a q. inner-same p a q;
    leaf_below = λ a. omega (arith, B.s_is, leaf-state-below y.rules rp a);
    inner_below = λ p a q. omega (
      arith,
      B.s_is,
      inner-state-below y.rules rp
          ((p * label_count y.rules + a) * state_count y.rules + q),
    );
    label_below = λ v. rw (labels-plan_tree y.plan pp) (plan-labels v);
    changed_below = λ v. changed_below z.k (labels_within y.plan) vs bs k-pos plan-labels
        (all_below-all z.k bs lp.labels_below k-pos) v;
    run = λ v. refl;
    map = λ v q. refl;
    run_below = λ v h. state-table-small (v * (z.s + 1));
    map_below = λ v q h l. state-table-small (v * (z.s + 1) + (1 + q));
  }
