-- From the tables of a Load to the tables of colours as whole lists.
--     base-passed      2 to 11 of a Load's build pass
--     table-args       what the writer of a Load's tables needs
--     parts-filled     the tables of a Load are what the writers of sets and colours need
--     parts-written    what these leave is what the build has to write
use Prim.Native.Nat.{ℕ, ◌+◌, ◌-◌, ◌*◌, ◌^◌, ◌≤◌, ◌<◌}
use mathlib.Core.Path.{◌≡◌, refl, sym, ap, ap₂, ◌∙◌, subst}
use mathlib.Core.List.{List, ◌++◌, append_assoc}
use native.Mathlib.Omega.{arith}
use lib.ListN.{length, get_or, take, drop, length-drop, take-append-drop, get_or-append}
use lib.Pow.{pow_mono}
use lib.Seq.{ext_get_or, length-take-le, get_or-drop, get_or-take, drop-drop}
use Rattle.list_laws.proofs.AppendLaws.{get_d_past}
use Rattle.list_laws.proofs.RowLaws.{stride}
use Rattle.trees.specs.Tree.{Tree, kinds_of, size}
use Rattle.trees.proofs.TableRows.{state_table_of-state}
use Rattle.formats.specs.Plan.{node_count, labels_within, plan_tree}
use Rattle.formats.specs.Rules.{state_count, label_count, leaf_states, inner_states, rule_marks, rule_automaton}
use Rattle.formats.specs.Checks.{first_no, build_checks, node_table_length, state_table_length}
use Rattle.formats.specs.Built.{built_node_table, built_state_table, AsBuilt}
use Rattle.formats.proofs.PlanLaws.{length-labels_within, labels-plan_tree, size-plan_tree, labels-part}
use Rattle.formats.specs.Passing.{PlanPasses}
use Rattle.formats.proofs.RuleLaws.{RulesPass, inner-part, length-leaf_states, length-inner_states, leaf-state-below}
use Rattle.formats.proofs.RuleLaws.{inner-state-below}
use Rattle.formats.proofs.InputLaws.{label_below, passes-build}
use Rattle.tables.specs.node_tables.NodeCells.{NodeCells}
use Rattle.tables.proofs.node_tables.CellLaws.{link-cells}
use Rattle.tables.specs.inner.States.{RuleRuns}
use Rattle.tables.specs.inner.Maps.{Prepared}
use Rattle.tables.specs.inner.Written.{BuildArgs, BothWritten}
use Rattle.tables.proofs.BuildLaws.{build-args, written-as-built, length-built_node_table, length-built_states}
use Rattle.colours.specs.StateSets.{set_step}
use Rattle.colours.proofs.SetLaws.{set_step-below}
use Rattle.colour_tables.proofs.LayoutLaws.{numbers-over, copies-over}
use Rattle.colour_tables.specs.rule.Build.{set_numbers_length, rule_colour_checks, built_set_numbers}
use Rattle.colour_tables.specs.rule.Build.{built_set_copies, built_set_bytes}
use Rattle.colour_tables.specs.rule.inner.Filled.{SetFillArgs, SetsFilled, AllFilled, PartArgs, SetColoursWritten}
use Rattle.colour_tables.proofs.rule.BuildLaws.{accepted, table-passed, length-set_numbers, length-set_bytes}

-- ---- a table in front of a buffer

-- two tables in front of a buffer: the first n bytes, and what follows them
two-tables : (a x y b : List ℕ) (n k : ℕ) → take n a ≡ x → drop n a ≡ y ++ drop k (drop n b)
    → a ≡ (x ++ y) ++ drop (n + k) b
two-tables a x y b n k e f =
    sym (take-append-drop n a) ∙ ap₂ (λ (u w : List ℕ). u ++ w) e f
    ∙ ap (λ (w : List ℕ). x ++ (y ++ w)) (drop-drop k n b) ∙ sym (append_assoc x y (drop (n + k) b))

-- ---- the tables of a Load

module _ (p r : List ℕ) (l m : ℕ) (ok : first_no (rule_colour_checks p r l m) ≡ 0) where
  plan : PlanPasses p
  plan = (accepted p r l m ok).0

  rules : RulesPass r
  rules = (accepted p r l m ok).1

  some : 0 < 2 ^ state_count r
  some =
      let low : 2 ^ 0 ≤ 2 ^ state_count r = pow_mono {i = 0} {j = state_count r} (omega arith) in omega arith

  first-room : node_table_length (node_count p) ≤ set_numbers_length (node_count p) (state_count r)
  first-room = omega (arith, stride (node_count p * 4) 0 (2 ^ state_count r) some)

  pub base-passed : first_no (build_checks p r l m) ≡ 0
  base-passed =
      passes-build p r l m (table-passed p r l m ok) (omega (arith, first-room, (accepted p r l m ok).4))
      (omega (arith, (accepted p r l m ok).5))

  rule-runs : RuleRuns (state_count r) (label_count r) (leaf_states r) (inner_states r)
  rule-runs = record {
    few = rules.states_most;
    labels = rules.labels_most;
    leaf_count = length-leaf_states r rules;
    inner_count = length-inner_states r rules;
    leaf_below = leaf-state-below r rules;
    inner_below = inner-state-below r rules;
  }

  module _ (numbers bytes : List ℕ) (B : AsBuilt p r numbers bytes) where
    prepared : Prepared (state_count r) (label_count r) (leaf_states r) (inner_states r) (rule_marks r) (plan_tree p)
        (kinds_of (plan_tree p)) (labels_within p) numbers bytes
    prepared =
        let n : node_count p ≡ size (plan_tree p) = sym (size-plan_tree p plan) in
        let C : NodeCells (plan_tree p) numbers = link-cells (plan_tree p) (node_count p) numbers n B.links in
        record {
          kinds = refl;
          labels = labels-plan_tree p plan;
          parents = C.parents;
          jumps = C.jumps;
          sizes = C.sizes;
          states = state_table_of-state (rule_automaton r) (plan_tree p) bytes
              (subst (λ (i : ℕ). take (i * (state_count r + 1)) bytes ≡ built_state_table p r) n B.states);
        }

    runs-filled : length numbers ≡ l → length bytes ≡ m
        → SetFillArgs (labels_within p) (inner_states r) (state_count r) (label_count r) numbers bytes
    runs-filled x y =
        let z : length (labels_within p) ≡ node_count p = length-labels_within p plan in
        record {
          tree = plan_tree p;
          leaves = leaf_states r;
          marks = rule_marks r;
          given = prepared;
          rules = rule-runs;
          few = (accepted p r l m ok).2;
          most = rw z plan.most;
          below = label_below p r rules.labels_least (accepted p r l m ok).3;
          numbers_room = rw (z, x) (accepted p r l m ok).4;
          bytes_room = rw (z, y) (accepted p r l m ok).5;
        }

    -- once the sets and the colours' tables are written
    module _ (before before' numbers' bytes' : List ℕ)
        (n_is : numbers ≡ built_node_table p ++ drop (length (built_node_table p)) before)
        (b-is : bytes ≡ built_state_table p r ++ drop (length (built_state_table p r)) before')
        (ln : length numbers' ≡ length before) (lb : length bytes' ≡ length before') (xl : length before ≡ l)
        (xm : length before' ≡ m)
        (F : SetsFilled (2 ^ state_count r) (state_table_length (node_count p) (state_count r))
        (set_step (rule_automaton r) (plan_tree p)) (plan_tree p) numbers bytes numbers' bytes') where
      abbrev t : Tree
      t = plan_tree p

      abbrev count : ℕ
      count = 2 ^ state_count r

      abbrev base : ℕ
      base = state_table_length (node_count p) (state_count r)

      abbrev step : ℕ → ℕ → ℕ
      step = set_step (rule_automaton r) (plan_tree p)

      n-size : size t ≡ node_count p
      n-size = size-plan_tree p plan

      numbers-list : numbers' ≡ built_set_numbers p r ++ drop (count * (size t * 4)) before
      numbers-list =
          let g : length (built_node_table p) ≡ size t * 4 =
          length-built_node_table p plan ∙ ap (λ (i : ℕ). i * 4) (sym n-size) in
          let room : count * (size t * 4) ≤ length before = rw (n-size, xl) (accepted p r l m ok).4 in
          let first : size t * 4 ≤ count * (size t * 4) = omega (arith, stride (size t * 4) 0 count some) in
          numbers-over count step t before numbers' ln room
          (λ j h. F.first j h ∙ ap (λ (x : List ℕ). get_or x j 0) n_is
          ∙ get_or-append (built_node_table p) (drop (length (built_node_table p)) before) 0 j (omega arith))
          F.cells
          (λ j h. F.rest j h ∙ ap (λ (x : List ℕ). get_or x j 0) n_is
          ∙ get_d_past (built_node_table p) before (length (built_node_table p)) j refl (omega arith))

      bytes_room : base + size t * count ≤ length before'
      bytes_room = rw (n-size, xm) (accepted p r l m ok).5

      -- the state table is still in front
      front-is : take base bytes' ≡ built_state_table p r
      front-is =
          let g : length (built_state_table p r) ≡ base = length-built_states p plan r in
          let z : length (take base bytes') ≡ base = length-take-le base bytes' (omega (arith, bytes_room)) in
          ext_get_or 0 (take base bytes') (built_state_table p r) (z ∙ sym g)
          (λ j h.
          let i : j < base = omega arith in
          get_or-take base bytes' j 0 i ∙ F.front j i ∙ ap (λ (x : List ℕ). get_or x j 0) b-is
          ∙ get_or-append (built_state_table p r) (drop (length (built_state_table p r)) before') 0 j (omega arith))

      -- and the copies follow
      rest-is : drop base bytes' ≡ built_set_copies p r ++ drop (size t * count) (drop base before')
      rest-is =
          let g : length (built_state_table p r) ≡ base = length-built_states p plan r in
          let u : length (drop base bytes') ≡ length bytes' - base = length-drop base bytes' in
          let w : length (drop base before') ≡ length before' - base = length-drop base before' in
          copies-over count step t (set_step-below (rule_automaton r) t) (drop base before') (drop base bytes')
          (omega arith) (omega (arith, bytes_room))
          (λ v c h i.
          let e : base + (v * count + c) ≡ base + v * count + c = omega arith in
          get_or-drop base bytes' (v * count + c) 0 ∙ ap (λ (x : ℕ). get_or bytes' x 0) e ∙ F.rows v h c i)
          (λ j h. get_or-drop base bytes' j 0 ∙ F.past (base + j) (omega arith)
          ∙ ap (λ (x : List ℕ). get_or x (base + j) 0) b-is
          ∙ get_d_past (built_state_table p r) before' (length (built_state_table p r)) (base + j) refl (omega arith)
          ∙ sym (get_or-drop base before' j 0))

      pub all-written : SetColoursWritten p r before before' numbers' bytes'
      all-written =
          let g : count * (size t * 4) ≡ length (built_set_numbers p r) =
          ap (λ (i : ℕ). count * (i * 4)) n-size ∙ sym (length-set_numbers p r plan) in
          let h : base + size t * count ≡ length (built_set_bytes p r) =
          ap (λ (i : ℕ). base + i * count) n-size ∙ sym (length-set_bytes p r plan) in
          record {
            numbers_are = numbers-list ∙ ap (λ (i : ℕ). built_set_numbers p r ++ drop i before) g;
            bytes_are = two-tables bytes' (built_state_table p r) (built_set_copies p r) before' base (size t * count)
                front-is rest-is
                ∙ ap (λ (i : ℕ). built_set_bytes p r ++ drop i before') h;
          }

-- ---- the same of the parts that are handed on

module _ (p r : List ℕ) (n s k : ℕ) (before before' : List ℕ)
    (args : PartArgs p r n s k (length before) (length before'))
  where
    ok : first_no (rule_colour_checks p r (length before) (length before')) ≡ 0
    ok = args.passed

    pub table-args : BuildArgs p r n s k before before'
    table-args =
        build-args p r before before' n s k (base-passed p r (length before) (length before') ok) args.nodes
        args.states args.labels

    module _ (numbers bytes : List ℕ) (D : BothWritten p r before before' numbers bytes) where
      as_built : AsBuilt p r numbers bytes
      as_built = rw (D.links, D.states) (written-as-built p r (table-passed p r (length before) (length before') ok) _ _)

      labels_are : take (12 + n - 12) (drop 12 p) ≡ labels_within p
      labels_are = labels-part p n args.nodes

      inner-are : (c : ℕ) → c ≡ s * k * s → take (20 + k + c - (20 + k)) (drop (20 + k) r) ≡ inner_states r
      inner-are c e = rw e (inner-part r s k args.states args.labels)

      pub parts-filled : (c : ℕ) → c ≡ s * k * s → length numbers ≡ length before → length bytes ≡ length before'
          → SetFillArgs (take (12 + n - 12) (drop 12 p)) (take (20 + k + c - (20 + k)) (drop (20 + k) r)) s k numbers bytes
      parts-filled c e x y =
          rw (labels_are, inner-are c e, args.states, args.labels)
          (runs-filled p r (length before) (length before') ok numbers bytes as_built x y)

      pub parts-written : (c : ℕ) → c ≡ s * k * s → (numbers' bytes' : List ℕ) → length numbers' ≡ length before
          → length bytes' ≡ length before'
          → AllFilled (take (12 + n - 12) (drop 12 p)) (take (20 + k + c - (20 + k)) (drop (20 + k) r)) s k numbers bytes
          numbers' bytes'
          → SetColoursWritten p r before before' numbers' bytes'
      parts-written c e numbers' bytes' x y F =
          let P : PlanPasses p = (accepted p r (length before) (length before') ok).0 in
          let G : AllFilled (labels_within p) (inner_states r) (state_count r) (label_count r) numbers bytes numbers' bytes' =
          rw (labels_are, inner-are c e, args.states, args.labels) at F in
          let z : length (labels_within p) ≡ node_count p = length-labels_within p P in
          let H : SetsFilled (2 ^ state_count r) (state_table_length (length (labels_within p)) (state_count r))
          (set_step (rule_automaton r) (plan_tree p)) (plan_tree p) numbers bytes numbers' bytes' =
          G (leaf_states r) (rule_marks r) (plan_tree p)
          (prepared p r (length before) (length before') ok numbers bytes as_built) in
          all-written p r (length before) (length before') ok numbers bytes as_built before before' numbers' bytes'
          D.links D.states x y refl refl (rw z at H)
