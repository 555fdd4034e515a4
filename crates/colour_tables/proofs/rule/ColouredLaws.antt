-- Tables of colours as built for a rule table: what is at each place.
--     coloured-cells    the cells of the colours' tables
--     coloured-copies   each node's sets, in the order of their colours, behind the state table
use Prim.Native.Nat.{ℕ, ◌+◌, ◌*◌, ◌^◌, ◌<◌}
use mathlib.Core.Path.{◌≡◌, sym, ap, ◌∙◌, subst}
use mathlib.Core.List.{List, ◌++◌}
use native.Mathlib.Omega.{arith}
use lib.ListN.{length, get_or, take}
use lib.Seq.{get_or-take, get_or-append-add, take_all}
use Rattle.list_laws.proofs.RowLaws.{cell_in}
use Rattle.trees.specs.Tree.{Tree, size}
use Rattle.formats.specs.Plan.{node_count, plan_tree}
use Rattle.formats.specs.Rules.{state_count, rule_automaton}
use Rattle.formats.specs.Checks.{state_table_length}
use Rattle.formats.specs.Built.{built_state_table}
use Rattle.formats.proofs.PlanLaws.{size-plan_tree}
use Rattle.formats.specs.Passing.{PlanPasses}
use Rattle.formats.proofs.InputLaws.{rule-table-passes}
use Rattle.tables.proofs.BuildLaws.{length-built_states}
use Rattle.colours.specs.Copies.{copy}
use Rattle.colours.specs.StateSets.{set_step}
use Rattle.colours.proofs.SetLaws.{set_step-below}
use Rattle.colour_tables.specs.AsBuilt.{ColourCells}
use Rattle.colour_tables.proofs.LayoutLaws.{numbers-cells, copies-cells}
use Rattle.colour_tables.specs.rule.Build.{set_bytes_length, built_set_numbers, built_set_copies, RuleColoured}
use Rattle.colour_tables.proofs.rule.BuildLaws.{length-set_copies}

module _ (p r numbers bytes : List ℕ) (B : RuleColoured p r numbers bytes) where
  plan : PlanPasses p
  plan = (rule-table-passes p r B.accepted).0

  pub coloured-cells : ColourCells (2 ^ state_count r) (set_step (rule_automaton r) (plan_tree p)) (plan_tree p) numbers
  coloured-cells =
      let count : ℕ = 2 ^ state_count r in
      numbers-cells count (set_step (rule_automaton r) (plan_tree p)) (plan_tree p) numbers
      (subst (λ (i : ℕ). take (count * (i * 4)) numbers ≡ built_set_numbers p r) (sym (size-plan_tree p plan))
      B.numbers_are)

  pub coloured-copies : (v c : ℕ) → v < node_count p → c < 2 ^ state_count r
      → get_or bytes (state_table_length (node_count p) (state_count r) + (v * 2 ^ state_count r + c)) 0
      ≡ get_or (copy (2 ^ state_count r) (set_step (rule_automaton r) (plan_tree p)) (plan_tree p) v) c 0
  coloured-copies v c h i =
      let count : ℕ = 2 ^ state_count r in
      let n : ℕ = node_count p in
      let base : ℕ = state_table_length n (state_count r) in
      let t : Tree = plan_tree p in
      let j : ℕ = v * count + c in
      let in-it : j < n * count = cell_in count n v c (n * count) h i (omega arith) in
      let front : length (built_state_table p r) ≡ base = length-built_states p plan r in
      let long : length (built_set_copies p r) ≡ n * count = length-set_copies p r plan in
      let whole : take (size t * count) (built_set_copies p r) ≡ built_set_copies p r =
      take_all (size t * count) (built_set_copies p r) (rw (size-plan_tree p plan) (omega arith)) in
      sym (get_or-take (set_bytes_length n (state_count r)) bytes (base + j) 0 (omega arith))
      ∙ ap (λ (x : List ℕ). get_or x (base + j) 0) B.bytes_are
      ∙ ap (λ (x : ℕ). get_or (built_state_table p r ++ built_set_copies p r) (x + j) 0) (sym front)
      ∙ get_or-append-add (built_state_table p r) (built_set_copies p r) j 0
      ∙ copies-cells count (set_step (rule_automaton r) t) t (set_step-below (rule_automaton r) t) (built_set_copies p r)
      whole v c
      (rw (size-plan_tree p plan) h) i
