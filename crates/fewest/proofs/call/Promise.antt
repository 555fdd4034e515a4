-- What the call writes is what it promises.
--     changes-rise, shown-relabels   the list rises, and is permitted
--     promised                       Done's equations give Answers' promise
use Prim.Native.Nat.{ℕ, ◌+◌, ◌*◌, ◌≤◌, ◌<◌}
use mathlib.Core.Path.{◌≡◌, refl, sym, ap, ◌∙◌, subst}
use mathlib.Core.Bool.{Bool, true, false, cond}
use mathlib.Core.List.{List, [], ◌∷◌}
use native.Mathlib.Decide.{dec_lt}
use native.Mathlib.Omega.{arith}
use lib.Dec.{leb, eqb}
use lib.ListN.{length, get_or, take}
use lib.Seq.{take_at}
use borrow.Author.Tests.{eq-eqb, ne_eqb, le-leb, lt-leb}
use Rattle.list_laws.proofs.AppendLaws.{get_d_past}
use Rattle.list_laws.proofs.BoolLaws.{and_both}
use Rattle.trees.specs.Tree.{Tree, size, kinds_of, labels_of}
use Rattle.trees.specs.Postorder.{tree_of}
use Rattle.trees.specs.Changes.{changed}
use Rattle.trees.proofs.NodeLaws.{length-labels}
use Rattle.trees.proofs.PostorderLaws.{tree_of-is}
use Rattle.formats.specs.Plan.{plan_tree}
use Rattle.formats.specs.Rules.{state_count, label_count}
use Rattle.formats.specs.Checks.{first_no, rule_table_checks}
use Rattle.formats.proofs.PlanLaws.{size-plan_tree}
use Rattle.formats.proofs.InputLaws.{rule-table-passes}
use Rattle.questions.specs.ready.StaysInside.{StaysInside}
use Rattle.fewest.specs.Least.{place_of_least}
use Rattle.fewest.specs.Relabelling.{Relabelling, changed_nodes, changed_labels}
use Rattle.fewest.specs.Fewest.{IsFewest, clearing_cost, fewest, cleared_tree}
use Rattle.fewest.specs.inner.Cost.{Problem, cost}
use Rattle.fewest.proofs.costs.LeastLaws.{least-far, Found, least-found}
use Rattle.fewest.proofs.costs.ListLaws.{changes-make}
use Rattle.fewest.proofs.costs.CostLaws.{cost-attained}
use Rattle.fewest.proofs.costs.Theorems.{fewest-is-least, none-clears, ClearingList, shown-clears}
use Rattle.allowed.proofs.InputsLaws.{pass-args}
use Rattle.fewest.proofs.down.WitnessLaws.{witness-size, witness-kinds}
use Rattle.fewest.specs.inner.list.Shown.{shown_nodes, shown_labels, over}
use Rattle.fewest.specs.Answers.{wanted_automaton, rising, ListTold, LeastTold, FewestTold}
use Rattle.fewest.specs.inner.Done.{plan_problem, FewestDone}
use Rattle.fewest.proofs.call.CallLaws.{table-yes}

pub changes-rise : (lo v : ℕ) → lo ≤ v → (ls bs : List ℕ) → rising lo (changed_nodes v ls bs) ≡ true
unfolding rising changed_nodes
changes-rise lo v h [] bs = refl
changes-rise lo v h (a ∷ ls) [] = refl
changes-rise lo v h (a ∷ ls) (b ∷ bs) =
    go (eqb a b) (changes-rise lo (v + 1) (omega arith) ls bs) (changes-rise (v + 1) (v + 1) (omega arith) ls bs)
  where
    go : (c : Bool) → rising lo (changed_nodes (v + 1) ls bs) ≡ true → rising (v + 1) (changed_nodes (v + 1) ls bs) ≡ true
        → rising lo (cond c (changed_nodes (v + 1) ls bs) (v ∷ changed_nodes (v + 1) ls bs)) ≡ true
    go true x y = x
    go false x y = and_both (leb lo v) (rising (v + 1) (changed_nodes (v + 1) ls bs)) (le-leb lo v h) y

module _ (P : Problem) (S : StaysInside P.automaton) (t : Tree) (below : fewest P t < P.far) where
  -- the tree that is shown is a permitted relabelling
  pub shown-relabels : Relabelling P.labels P.may t (cleared_tree P t)
  unfolding fewest clearing_cost cleared_tree
  shown-relabels =
      let g : ℕ = place_of_least P.far P.automaton.states (clearing_cost P t) in
      let F : Found P.far P.automaton.states (clearing_cost P t) g = least-found P.far P.automaton.states (clearing_cost P t) below in
      let low : cost P t 0 g < P.far = go (P.automaton.accepting g) (cost P t 0 g) (omega (arith, F.is, below)) in
      record { kinds = witness-kinds P t 0 g; labels = (cost-attained P t 0 g low).allowed }
    where
      go : (c : Bool) (z : ℕ) → cond c z P.far < P.far → z < P.far
      go true z h = h
      go false z h = absurd (omega arith)

  abbrev vs : List ℕ
  vs = changed_nodes 0 (labels_of t) (labels_of (cleared_tree P t))

  abbrev cs : List ℕ
  cs = changed_labels (labels_of t) (labels_of (cleared_tree P t))

  shown-size : size (cleared_tree P t) ≡ size t
  unfolding cleared_tree
  shown-size = witness-size P t 0 (place_of_least P.far P.automaton.states (clearing_cost P t))

  -- the tree changed by the list is the one that is shown
  changed-is : tree_of (kinds_of t) (changed (labels_of t) vs cs) ≡ cleared_tree P t
  changed-is =
      ap (tree_of (kinds_of t)) (changes-make (labels_of t) (labels_of (cleared_tree P t))
      (length-labels t ∙ sym shown-size ∙ sym (length-labels (cleared_tree P t))))
      ∙ ap (λ (x : List ℕ). tree_of x (labels_of (cleared_tree P t))) (sym shown-relabels.kinds) ∙ tree_of-is (cleared_tree P t)

  pub list-told : ListTold P.automaton P.labels P.may t (fewest P t) vs cs
  list-told =
      let C : ClearingList P S t (fewest P t) vs cs = shown-clears P S t below in
      record {
        nodes_number = C.nodes_number;
        labels_number = C.labels_number;
        nodes_in = C.nodes_in;
        nodes_rise = changes-rise 0 0 (omega arith) (labels_of t) (labels_of (cleared_tree P t));
        labels_in = C.labels_in;
        permits = subst (Relabelling P.labels P.may t) (sym changed-is) shown-relabels;
        does = C.clears;
      }

fewest-far : (P : Problem) (t : Tree) → fewest P t ≤ P.far
unfolding fewest
fewest-far P t = least-far P.far P.automaton.states (clearing_cost P t)

module _ (P : Problem) (t : Tree) where
  few-nodes : fewest P t ≤ 64 → shown_nodes P t ≡ changed_nodes 0 (labels_of t) (labels_of (cleared_tree P t))
  unfolding shown_nodes
  few-nodes h = ap (λ (b : Bool). cond b (changed_nodes 0 (labels_of t) (labels_of (cleared_tree P t))) []) (le-leb (fewest P t) 64 h)

  few_labels : fewest P t ≤ 64 → shown_labels P t ≡ changed_labels (labels_of t) (labels_of (cleared_tree P t))
  unfolding shown_labels
  few_labels h = ap (λ (b : Bool). cond b (changed_labels (labels_of t) (labels_of (cleared_tree P t))) []) (le-leb (fewest P t) 64 h)

  many-nodes : 64 < fewest P t → shown_nodes P t ≡ []
  unfolding shown_nodes
  many-nodes h = ap (λ (b : Bool). cond b (changed_nodes 0 (labels_of t) (labels_of (cleared_tree P t))) []) (lt-leb (fewest P t) 64 h)

  many-labels : 64 < fewest P t → shown_labels P t ≡ []
  unfolding shown_labels
  many-labels h = ap (λ (b : Bool). cond b (changed_labels (labels_of t) (labels_of (cleared_tree P t))) []) (lt-leb (fewest P t) 64 h)

  module _ (S : StaysInside P.automaton) (far : P.far ≡ 65536) where
    shown-length : length (shown_nodes P t) ≡ cond (leb (fewest P t) 64) (fewest P t) 0
    shown-length = elim (dec_lt 64 (fewest P t)) [
      | yes h ↦ ap length (many-nodes h) ∙ sym (ap (λ (b : Bool). cond b (fewest P t) 0) (lt-leb (fewest P t) 64 h))
      | no h ↦ ap length (few-nodes (omega arith)) ∙ (list-told P S t (omega arith)).nodes_number
          ∙ sym (ap (λ (b : Bool). cond b (fewest P t) 0) (le-leb (fewest P t) 64 (omega arith)))
    ]

    labels_length : length (shown_labels P t) ≡ length (shown_nodes P t)
    labels_length = elim (dec_lt 64 (fewest P t)) [
      | yes h ↦ ap length (many-labels h) ∙ sym (ap length (many-nodes h))
      | no h ↦ ap length (few_labels (omega arith)) ∙ (list-told P S t (omega arith)).labels_number
          ∙ sym (list-told P S t (omega arith)).nodes_number ∙ sym (ap length (few-nodes (omega arith)))
    ]

    least-told : size t < 65536 → (m c : ℕ) (nodes labels nodes' labels' : List ℕ) → m ≡ fewest P t → c ≡ length (shown_nodes P t)
        → nodes' ≡ over (shown_nodes P t) nodes → labels' ≡ over (shown_labels P t) labels
        → LeastTold P.automaton P.labels P.may t m c nodes' labels'
    least-told small m c nodes labels nodes' labels' em ec en el = record {
      way = λ h. subst (IsFewest P.automaton P.labels P.may t) (sym em) (fewest-is-least P S t (omega arith));
      no_way = λ h. (omega (arith, fewest-far P t), none-clears P S t (omega arith) (omega (arith, fewest-far P t)));
      count = ec ∙ shown-length ∙ ap (λ (x : ℕ). cond (leb x 64) x 0) (sym em);
      listed = λ h.
          let L = list-told P S t (omega arith) in
          let n : take m nodes' ≡ changed_nodes 0 (labels_of t) (labels_of (cleared_tree P t)) =
          ap (take m) (en ∙ ap (λ (x : List ℕ). over x nodes) (few-nodes (omega arith)))
          ∙ take_at (changed_nodes 0 (labels_of t) (labels_of (cleared_tree P t))) _ m (L.nodes_number ∙ sym em) in
          let l : take m labels' ≡ changed_labels (labels_of t) (labels_of (cleared_tree P t)) =
          ap (take m) (el ∙ ap (λ (x : List ℕ). over x labels) (few_labels (omega arith)))
          ∙ take_at (changed_labels (labels_of t) (labels_of (cleared_tree P t))) _ m (L.labels_number ∙ sym em) in
          rw (n, l, em) L;
    }

    nodes-past : (c : ℕ) (nodes nodes' : List ℕ) → c ≡ length (shown_nodes P t) → nodes' ≡ over (shown_nodes P t) nodes → (j : ℕ) → c ≤ j
        → get_or nodes' j 0 ≡ get_or nodes j 0
    nodes-past c nodes nodes' ec en j h =
        ap (λ (x : List ℕ). get_or x j 0) en ∙ get_d_past (shown_nodes P t) nodes (length (shown_nodes P t)) j refl (omega arith)

    labels-past : (c : ℕ) (labels labels' : List ℕ) → c ≡ length (shown_nodes P t) → labels' ≡ over (shown_labels P t) labels → (j : ℕ) → c ≤ j
        → get_or labels' j 0 ≡ get_or labels j 0
    labels-past c labels labels' ec el j h =
        ap (λ (x : List ℕ). get_or x j 0) el
        ∙ get_d_past (shown_labels P t) labels (length (shown_labels P t)) j refl (omega (arith, labels_length))

module _ (p r may : List ℕ) (want : ℕ) (work nodes labels : List ℕ) (least count answer : ℕ)
    (work' nodes' labels' : List ℕ) (least' count' : ℕ)
    (D : FewestDone p r may want work nodes labels least count answer work' nodes' labels' least' count') where
  passed : answer ≡ 0 → first_no (rule_table_checks p r) ≡ 0
  passed e = table-yes p r (length may) (length work) (length nodes) (length labels) (sym D.number ∙ e)

  stays : answer ≡ 0 → StaysInside (wanted_automaton r want)
  stays e =
      let G = pass-args p r (passed e) in
      record { init = G.leaf_below; next = λ p a q. G.inner_below ((p * label_count r + a) * state_count r + q) }

  small : answer ≡ 0 → size (plan_tree p) < 65536
  small e = let f = rule-table-passes p r (passed e) in omega (arith, size-plan_tree p f.0, f.0.most)

  pub promised : FewestTold p r may want work nodes labels least count answer work' nodes' labels' least' count'
  promised = record {
    number = D.number;
    told = λ e. (let z : eqb answer 0 ≡ true = eq-eqb answer 0 e in
        least-told (plan_problem r may want) (plan_tree p) (stays e) refl (small e) least' count' nodes labels nodes' labels'
        (D.least_is ∙ ap (λ (b : Bool). cond b (fewest (plan_problem r may want) (plan_tree p)) least) z)
        (D.count_is ∙ ap (λ (b : Bool). cond b (length (shown_nodes (plan_problem r may want) (plan_tree p))) count) z)
        (D.nodes_are ∙ ap (λ (b : Bool). cond b (over (shown_nodes (plan_problem r may want) (plan_tree p)) nodes) nodes) z)
        (D.labels_are ∙ ap (λ (b : Bool). cond b (over (shown_labels (plan_problem r may want) (plan_tree p)) labels) labels) z));
    nodes_beyond = λ e. (let z : eqb answer 0 ≡ true = eq-eqb answer 0 e in
        nodes-past (plan_problem r may want) (plan_tree p) (stays e) refl count' nodes nodes'
        (D.count_is ∙ ap (λ (b : Bool). cond b (length (shown_nodes (plan_problem r may want) (plan_tree p))) count) z)
        (D.nodes_are ∙ ap (λ (b : Bool). cond b (over (shown_nodes (plan_problem r may want) (plan_tree p)) nodes) nodes) z));
    labels_beyond = λ e. (let z : eqb answer 0 ≡ true = eq-eqb answer 0 e in
        labels-past (plan_problem r may want) (plan_tree p) (stays e) refl count' labels labels'
        (D.count_is ∙ ap (λ (b : Bool). cond b (length (shown_nodes (plan_problem r may want) (plan_tree p))) count) z)
        (D.labels_are ∙ ap (λ (b : Bool). cond b (over (shown_labels (plan_problem r may want) (plan_tree p)) labels) labels) z));
    work_beyond = D.work_beyond;
    refused = λ e. (let z : eqb answer 0 ≡ false = ne_eqb answer 0 e in (
      D.work_kept e,
      D.nodes_are ∙ ap (λ (b : Bool). cond b (over (shown_nodes (plan_problem r may want) (plan_tree p)) nodes) nodes) z,
      D.labels_are ∙ ap (λ (b : Bool). cond b (over (shown_labels (plan_problem r may want) (plan_tree p)) labels) labels) z,
      D.least_is ∙ ap (λ (b : Bool). cond b (fewest (plan_problem r may want) (plan_tree p)) least) z,
      D.count_is ∙ ap (λ (b : Bool). cond b (length (shown_nodes (plan_problem r may want) (plan_tree p))) count) z,
    ));
  }
