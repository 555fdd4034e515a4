-- The whole count on tables as built.
--     given_built       what the rule reads there: the plan's tree, the rules' automaton, the plan's own labels, the
--                      given bytes
--     built-reads, built-run   the inputs are so, and these bytes are the run's
--     built-fits       the list is one that has roots
--     built-counts     the counts are those of the definition by trying all: nothing is cut off
--     built-sum        their sum is K to the power m
use Prim.Native.Nat.{ℕ, ◌+◌, ◌-◌, ◌*◌, ◌^◌, ◌≤◌, ◌<◌}
use mathlib.Core.Path.{◌≡◌, refl, sym, ap, ap₂, ◌∙◌, subst}
use mathlib.Core.Bool.{Bool, true, false, cond, ◌&&◌}
use mathlib.Core.List.{List, [], ◌∷◌, ◌++◌}
use native.Mathlib.Decide.{dec_lt}
use native.Mathlib.Omega.{arith}
use lib.Dec.{leb, eqb}
use lib.ListN.{length, get_or, take, get_or-eq_default}
use lib.Seq.{take_all}
use borrow.Author.Tests.{le-leb, leb-true, ne_eqb}
use Rattle.trees.specs.Tree.{Tree, size, kinds_of, labels_of}
use Rattle.trees.specs.Postorder.{tree_of}
use Rattle.trees.specs.Changes.{changed}
use Rattle.trees.specs.Automaton.{Automaton}
use Rattle.trees.specs.Tables.{state_row, state_table_of}
use Rattle.trees.proofs.MapLaws.{state_map-below}
use Rattle.trees.proofs.NodeLaws.{size-pos}
use Rattle.trees.proofs.RunLaws.{state_below}
use Rattle.trees.proofs.TableRows.{length-state_row, state_table_of-state, state_table_of-map}
use Rattle.trees.specs.Numbering.{sub}
use Rattle.list_laws.specs.Tests.{all_below, distinct}
use Rattle.list_laws.proofs.RowLaws.{length-rows, length-tabulate}
use Rattle.formats.specs.Limits.{node_limit, change_limit}
use Rattle.formats.specs.Plan.{node_count, plan_tree}
use Rattle.formats.specs.Rules.{state_count, label_count, rule_automaton}
use Rattle.formats.specs.Checks.{Check, check, first_no, node_table_length}
use Rattle.formats.specs.Built.{AsBuilt, node_table_part, state_table_part}
use Rattle.formats.specs.Buffers.{headed_buffers_fit, rule_tables}
use Rattle.formats.proofs.CheckLaws.{first_no-head, first_no-tail}
use Rattle.formats.proofs.PlanLaws.{size-plan_tree, kinds-plan_tree, labels-plan_tree}
use Rattle.formats.specs.Passing.{PlanPasses}
use Rattle.formats.proofs.RuleLaws.{RulesPass, leaf-state-below, inner-state-below}
use Rattle.formats.proofs.InputLaws.{rule-table-passes, label_below}
use Rattle.tables.specs.node_tables.NodeCells.{NodeCells}
use Rattle.tables.proofs.node_tables.CellLaws.{link-cells, length-node_table_of}
use Rattle.tables.specs.StateCells.{state_cell, map_cell}
use Rattle.questions.specs.ready.Members.{roots}
use Rattle.questions.specs.ready.Parts.{Given}
use Rattle.questions.specs.ready.StaysInside.{StaysInside}
use Rattle.questions.specs.ready.RunGiven.{RunGiven}
use Rattle.questions.specs.RootsAnswers.{roots_fit}
use Rattle.questions.specs.Promises.{Reads}
use Rattle.choices.specs.assignments.Assignments.{assignments, how_many, end_state, counted}
use Rattle.choices.specs.assignments.Sums.{sum_to}
use Rattle.choices.specs.assignments.PartCounts.{Tally, counts_of, count_for, part_count, part_tally, tallies_from, tallies}
use Rattle.choices.proofs.assignments.SumLaws.{sum-most}
use Rattle.choices.proofs.assignments.Theorems.{sum-is-the-power, parts-are-tried}
use Rattle.choices.specs.node_counts.Capped.{count_limit, capped}
use Rattle.choices.specs.question_counts.CountOn.{open_in, count_view, listed_checks}

abbrev pub given_built : List ℕ → List ℕ → List ℕ → Given
given_built p r state_table = record {
  tree = plan_tree p;
  automaton = rule_automaton r;
  labels = labels_of (plan_tree p);
  run_state = λ v. state_cell (state_count r) (state_table_part (node_count p) (state_count r) state_table) v;
  map_state = λ v q. map_cell (state_count r) (state_table_part (node_count p) (state_count r) state_table) v q;
}

-- ---- parts have counts at states alone

abbrev Narrow : ℕ → List Tally → Type 0
Narrow n [] = Unit {0}
Narrow n (p ∷ ts) = (length p.counts ≤ n) × Narrow n ts

narrow-more : (n : ℕ) (ts : List Tally) (p : Tally) → Narrow n ts → length p.counts ≤ n → Narrow n (ts ++ (p ∷ []))
narrow-more n [] p h l = (l, tt)
narrow-more n (q ∷ ts) p h l = (h.0, narrow-more n ts p h.1 l)

narrow_at : (n : ℕ) (ts : List Tally) (v : ℕ) → Narrow n ts → length (counts_of ts v) ≤ n
unfolding counts_of
narrow_at n [] v h = omega arith
narrow_at n (q ∷ ts) v h = go (eqb q.node v) (narrow_at n ts v h.1)
  where
    go : (b : Bool) → length (counts_of ts v) ≤ n → length (cond b q.counts (counts_of ts v)) ≤ n
    go true l = h.0
    go false l = l

narrow-all : (G : Given) (k : ℕ) (w : ℕ → Bool) (ms : List ℕ) (ts : List Tally) (vs : List ℕ)
    → Narrow G.automaton.states ts → Narrow G.automaton.states (tallies_from G k w ms ts vs)
unfolding tallies_from part_tally
narrow-all G k w ms ts [] h = h
narrow-all G k w ms ts (v ∷ vs) h =
    narrow-all G k w ms (ts ++ (part_tally G k w ms ts v ∷ [])) vs
    (narrow-more G.automaton.states ts (part_tally G k w ms ts v) h
    (omega (arith, length-tabulate G.automaton.states (part_count G k w ms ts v))))

pub tallies-none : (G : Given) (k : ℕ) (w : ℕ → Bool) (ms : List ℕ) (v c : ℕ) → G.automaton.states ≤ c
    → count_for (tallies G k w ms) v c ≡ 0
unfolding tallies
tallies-none G k w ms v c h =
    get_or-eq_default (counts_of (tallies G k w ms) v) 0 {n = c}
    (omega (arith, narrow_at G.automaton.states (tallies_from G k w ms [] ms) v (narrow-all G k w ms [] ms tt)))

how-none : (f : List ℕ → Bool) (xs : List (List ℕ)) → ((x : List ℕ) → f x ≡ false) → how_many f xs ≡ 0
unfolding how_many
how-none f [] h = refl
how-none f (x ∷ xs) h = rw (h x) (let e = how-none f xs h in omega arith)

-- ---- what the checks before 18 say

pub record Listed (n k : ℕ) (vs : List ℕ) : Type 0 where
  pub few : length vs ≤ change_limit
  pub below : all_below n vs ≡ true
  pub different : distinct vs ≡ true
  pub fit : k ^ length vs ≤ count_limit

module _ (p r : List ℕ) (n s : ℕ) (vs : List ℕ) (ok : first_no (listed_checks p r n s vs) ≡ 0) where
  abbrev tests : List Check
  tests =
      check 12 (leb (length vs) change_limit)
      ∷ check 13 (all_below (node_count p) vs)
      ∷ check 15 (distinct vs)
      ∷ check 26 (leb (label_count r ^ length vs) count_limit)
      ∷ []

  after-17 : first_no tests ≡ 0
  unfolding listed_checks
  after-17 = first_no-tail 17 (headed_buffers_fit rule_tables p r n s) tests (omega arith) ok

  pub fit-17 : headed_buffers_fit rule_tables p r n s ≡ true
  unfolding listed_checks
  fit-17 = first_no-head 17 (headed_buffers_fit rule_tables p r n s) tests (omega arith) ok

  pub listed-are : Listed (node_count p) (label_count r) vs
  listed-are =
      let a = after-17 in
      let b = first_no-tail 12 _ _ (omega arith) a in
      let c = first_no-tail 13 _ _ (omega arith) b in
      let d = first_no-tail 15 _ _ (omega arith) c in
      record {
        few = leb-true (length vs) change_limit (first_no-head 12 _ _ (omega arith) a);
        below = first_no-head 13 _ _ (omega arith) b;
        different = first_no-head 15 _ _ (omega arith) c;
        fit = leb-true (label_count r ^ length vs) count_limit (first_no-head 26 _ _ (omega arith) d);
      }

-- ---- tables as built

module _ (p r node_table state_table : List ℕ) (B : AsBuilt p r node_table state_table) where
  abbrev t : Tree
  t = plan_tree p

  abbrev A : Automaton
  A = rule_automaton r

  abbrev used : List ℕ
  used = state_table_part (node_count p) (state_count r) state_table

  pp : PlanPasses p
  pp = (rule-table-passes p r B.accepted).0

  pub rp : RulesPass r
  rp = (rule-table-passes p r B.accepted).1

  pub inside : StaysInside (rule_automaton r)
  inside = record { init = λ a. leaf-state-below r rp a; next = λ p a q. inner-state-below r rp _ }

  count_is : node_count p ≡ size (plan_tree p)
  count_is = sym (size-plan_tree p pp)

  label_small : (v : ℕ) → get_or (labels_of (plan_tree p)) v 0 < label_count r
  label_small v =
      rw (labels-plan_tree p pp) (label_below p r rp.labels_least (rule-table-passes p r B.accepted).2 v)

  cells : NodeCells (plan_tree p) (node_table_part (node_count p) node_table)
  cells =
      link-cells (plan_tree p) (size (plan_tree p)) (node_table_part (node_count p) node_table) refl
      (take_all (node_table_length (size (plan_tree p))) (node_table_part (node_count p) node_table)
      (let e : length (node_table_part (node_count p) node_table) ≡ size (plan_tree p) * 4 =
      ap length B.links ∙ length-node_table_of (plan_tree p) in omega arith)
      ∙ B.links)

  table : take (size (plan_tree p) * (state_count r + 1)) used ≡ state_table_of (rule_automaton r) (plan_tree p)
  unfolding state_table_of
  table =
      take_all (size t * (state_count r + 1)) used
      (omega (
        arith,
        ap length B.states,
        length-rows (size t) (state_count r + 1) (state_row A t) (λ v h. length-state_row A t v),
      ))
      ∙ B.states

  pub built-run : RunGiven (given_built p r state_table) (plan_tree p)
  built-run = record {
    labels = refl;
    states = λ v h. state_table_of-state A t used table v h;
    maps = λ v q h l.
        let i : v * (state_count r + 1) + (1 + q) ≡ v * (state_count r + 1) + 1 + q = omega arith in
        ap (λ (j : ℕ). get_or used j 0) i ∙ state_table_of-map A t used table v h q l;
  }

  pub built-reads : Reads (count_view p r node_table state_table) (given_built p r state_table)
  built-reads = record {
    count = count_is;
    labels = sym (labels-plan_tree p pp);
    kinds = sym (kinds-plan_tree p pp);
    cells = cells;
    states = refl;
    leaf = λ a. refl;
    inner = λ p a q. refl;
    leaf_below = λ a. leaf-state-below r rp a;
    inner_below = λ p a q. inner-state-below r rp _;
    label_below = λ v. label_small v;
    changed_below = λ v. label_small v;
    run = λ v. refl;
    map = λ v q. refl;
    run_below = λ v h.
        subst (λ (x : ℕ). x < state_count r) (sym (built-run.states v h))
        (state_below A inside.init inside.next (sub t v));
    map_below = λ v q h l.
        subst (λ (x : ℕ). x < state_count r) (sym (built-run.maps v q h l)) (state_map-below A t inside.next v q l);
  }

  module _ (vs : List ℕ) (ok : first_no (listed_checks p r (length node_table) (length state_table) vs) ≡ 0) where
    L : Listed (node_count p) (label_count r) vs
    L = listed-are p r (length node_table) (length state_table) vs ok

    pub built-fits : roots_fit (node_count p) (length (node_table_part (node_count p) node_table)) vs ≡ true
    unfolding roots_fit
    built-fits =
        ap₂ (λ (a b : Bool). a && b)
        (ap₂ (λ (a b : Bool). a && b) (le-leb 1 (node_count p) pp.least) (le-leb (node_count p) node_limit pp.most))
        (ap₂ (λ (a b : Bool). a && b)
        (le-leb (node_table_length (node_count p)) (length (node_table_part (node_count p) node_table))
        (omega (arith, ap length B.links, length-node_table_of t, count_is)))
        (ap₂ (λ (a b : Bool). a && b) (le-leb (length vs) change_limit L.few) L.below))

    inside-plan : all_below (size (plan_tree p)) vs ≡ true
    inside-plan = ap (λ (n : ℕ). all_below n vs) (size-plan_tree p pp) ∙ L.below

    pub built-sum : sum_to (state_count r) (counted (rule_automaton r) (label_count r) (plan_tree p) vs)
        ≡ label_count r ^ length vs
    built-sum = sum-is-the-power A inside (label_count r) t vs

    end_below : (bs : List ℕ) → end_state (rule_automaton r) (plan_tree p) vs bs < state_count r
    end_below bs =
        state_below A inside.init inside.next
        (tree_of (kinds_of (plan_tree p)) (changed (labels_of (plan_tree p)) vs bs))

    -- no assignment ends in a state that there is not
    counted_none : (c : ℕ) → state_count r ≤ c → counted (rule_automaton r) (label_count r) (plan_tree p) vs c ≡ 0
    unfolding counted
    counted_none c h =
        how-none (λ bs. eqb (end_state A t vs bs) c) (assignments (label_count r) (length vs))
        (λ bs. ne_eqb (end_state A t vs bs) c (λ e. omega (arith, e, end_below bs)))

    -- at a state, below the limit
    there : (c : ℕ) → c < state_count r
        → count_for (tallies (given_built p r state_table) (label_count r) (open_in vs) (roots (plan_tree p) vs))
        (size (plan_tree p) - 1) c
        ≡ counted (rule_automaton r) (label_count r) (plan_tree p) vs c
    there c h =
        parts-are-tried (given_built p r state_table) built-run inside (label_count r) vs inside-plan L.different
        (size t - 1) c (omega (arith, size-pos t)) h

    most : (c : ℕ) → c < state_count r → counted (rule_automaton r) (label_count r) (plan_tree p) vs c ≤ count_limit
    most c h =
        omega (arith, sum-most (state_count r) (counted A (label_count r) t vs) c h, built-sum, L.fit)

    pub built-counts : (c : ℕ)
        → capped (count_for (tallies (given_built p r state_table) (label_count r) (open_in vs) (roots (plan_tree p) vs))
        (size (plan_tree p) - 1) c)
        ≡ counted (rule_automaton r) (label_count r) (plan_tree p) vs c
    built-counts c = elim (dec_lt c (state_count r)) [
      | yes h ↦ omega (arith, there c h, most c h)
      | no h ↦ omega (
        arith,
        counted_none c (omega arith),
        tallies-none (given_built p r state_table) (label_count r) (open_in vs) (roots t vs) (size t - 1) c (omega arith),
      )
    ]
