-- `check_count` meets its contract.
use native.Mathlib.Omega.{arith}
use Prim.Native.Nat.{ℕ, ◌^◌}
use mathlib.Core.Path.{◌≡◌, sym, ap, ◌∙◌}
use mathlib.Core.Bool.{true}
use lib.Dec.{leb}
use lib.ListN.{length}
use borrow.Author.Tests.{not-true, not-false}
use Rattle.list_laws.specs.Tests.{all_below}
use Rattle.formats.specs.Plan.{node_count}
use Rattle.formats.specs.Rules.{label_count}
use Rattle.formats.specs.Buffers.{headed_buffers_fit, rule_tables}
use Rattle.formats.proofs.BufferLaws.{headed-are}
use Rattle.choices.specs.node_counts.Capped.{count_limit}
use Rattle.choices.proofs.CountChecks.{no-17, no-12, no-13, no-15, no-26, all_pass}
use Rattle.choices.proofs.checks.check_count.Goals.{After-assignments_fit, After-nodes_below, Else-not-rule_headers_fit}
use Rattle.choices.proofs.checks.check_count.Goals as goal

fits : (c : Else-not-rule_headers_fit) → let g = c.args in
    headed_buffers_fit rule_tables g.plan.now g.rules.now (length g.node_table.now)
    (length g.state_table.now) ≡ true
fits c = sym c.rule_headers_fit.ensures ∙ not-false _ c.if-not-rule_headers_fit.false-raw

below : (c : After-nodes_below) → let g = c.args in
    c.nodes_below.result ≡ all_below (node_count g.plan.now) g.nodes.now
below c =
    let g = c.args in
    c.nodes_below.ensures ∙ ap (λ (n : ℕ). all_below n g.nodes.now) c.read32.ensures

few : (c : After-assignments_fit) → let g = c.args in
    c.assignments_fit.result ≡ leb (label_count g.rules.now ^ length g.nodes.now) count_limit
few c =
    let g = c.args in
    c.assignments_fit.ensures
    ∙ ap (λ (k : ℕ). leb (k ^ length g.nodes.now) count_limit) c.read32-2.ensures

pub returns-then-not-rule_headers_fit : goal.returns-then-not-rule_headers_fit
returns-then-not-rule_headers_fit c =
    no-17 _ _ _ _ _ (sym c.rule_headers_fit.ensures ∙ not-true _ c.if-not-rule_headers_fit.true-raw)

pub returns-then-nodes-gt-CHANGE_LIMIT : goal.returns-then-nodes-gt-CHANGE_LIMIT
returns-then-nodes-gt-CHANGE_LIMIT c = no-12 _ _ _ _ _ (fits (goal.at.returns-then-nodes-gt-CHANGE_LIMIT c).Else-not-rule_headers_fit) c.if-nodes-gt-CHANGE_LIMIT.true

pub read32-requires : goal.read32-requires
read32-requires c = omega (arith, (headed-are _ _ _ _ _ (fits (goal.at.read32-requires c).Else-not-rule_headers_fit)).headers.plan-long)

pub returns-then-not-nodes_below : goal.returns-then-not-nodes_below
returns-then-not-nodes_below c =
    no-13 _ _ _ _ _ (fits (goal.at.returns-then-not-nodes_below c).Else-not-rule_headers_fit) c.if-nodes-gt-CHANGE_LIMIT.false (sym (below (goal.at.returns-then-not-nodes_below c).After-nodes_below) ∙ not-true _ c.if-not-nodes_below.true-raw)

pub returns-then-not-all_distinct : goal.returns-then-not-all_distinct
returns-then-not-all_distinct c =
    no-15 _ _ _ _ _ (fits (goal.at.returns-then-not-all_distinct c).Else-not-rule_headers_fit) c.if-nodes-gt-CHANGE_LIMIT.false (sym (below (goal.at.returns-then-not-all_distinct c).After-nodes_below) ∙ not-false _ c.if-not-nodes_below.false-raw)
    (sym c.all_distinct.ensures ∙ not-true _ c.if-not-all_distinct.true-raw)

pub read32-requires-2 : goal.read32-requires-2
read32-requires-2 c =
    omega (arith, (headed-are _ _ _ _ _ (fits (goal.at.read32-requires-2 c).Else-not-rule_headers_fit)).headers.table-long)

pub assignments_fit-requires : goal.assignments_fit-requires
assignments_fit-requires c =
    omega (
      arith,
      (headed-are _ _ _ _ _ (fits (goal.at.assignments_fit-requires c).Else-not-rule_headers_fit)).headers.in-limits.labels,
      c.read32-2.ensures,
    )

pub returns-then-not-assignments_fit : goal.returns-then-not-assignments_fit
returns-then-not-assignments_fit c =
    no-26 _ _ _ _ _ (fits (goal.at.returns-then-not-assignments_fit c).Else-not-rule_headers_fit) c.if-nodes-gt-CHANGE_LIMIT.false (sym (below (goal.at.returns-then-not-assignments_fit c).After-nodes_below) ∙ not-false _ c.if-not-nodes_below.false-raw)
    (sym c.all_distinct.ensures ∙ not-false _ c.if-not-all_distinct.false-raw)
    (sym (few (goal.at.returns-then-not-assignments_fit c).After-assignments_fit) ∙ not-true _ c.if-not-assignments_fit.true-raw)

pub returns : goal.returns
returns c =
    all_pass _ _ _ _ _ (fits (goal.at.returns c).Else-not-rule_headers_fit) c.if-nodes-gt-CHANGE_LIMIT.false (sym (below (goal.at.returns c).After-nodes_below) ∙ not-false _ c.if-not-nodes_below.false-raw)
    (sym c.all_distinct.ensures ∙ not-false _ c.if-not-all_distinct.false-raw)
    (sym (few (goal.at.returns c).After-assignments_fit) ∙ not-false _ c.if-not-assignments_fit.false-raw)
