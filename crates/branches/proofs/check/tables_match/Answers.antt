-- `check::tables_match` meets its contract: its three comparisons, one after the other.
use mathlib.Core.Path.{refl, sym, ◌∙◌}
use Rattle.branches.proofs.FillLaws.{fill-link-args, branch-args}
use Rattle.branches.proofs.MatchLaws.{answer-cells, links-fail, steps-fail, maps-tell}
use native.Mathlib.Omega.{arith}
use Rattle.branches.proofs.check.tables_match.Goals as goal

pub check_node_table-requires : goal.check_node_table-requires
check_node_table-requires c = fill-link-args _ _ _ _ _ _ _ c.requires

pub returns-then-not-check_node_table : goal.returns-then-not-check_node_table
returns-then-not-check_node_table c =
    links-fail _ _ _ _ _ _ _ c.requires c.args.node_table.now c.args.state_table.now (omega arith)
    (λ t e. sym (c.if-not-check_node_table.true) ∙ c.check_node_table.ensures t e)

pub check_steps-requires : goal.check_steps-requires
check_steps-requires c = (branch-args _ _ _ _ _ _ _ c.requires c.args.node_table.now (answer-cells _ _ _ _ _ _ _ c.requires c.args.node_table.now c.args.state_table.now (omega arith) (λ t e. sym (c.if-not-check_node_table.false) ∙ c.check_node_table.ensures t e)) refl)

pub returns-then-not-check_steps : goal.returns-then-not-check_steps
returns-then-not-check_steps c =
    steps-fail _ _ _ _ _ _ _ c.requires c.args.node_table.now c.args.state_table.now (omega arith) (λ t e. sym (c.if-not-check_node_table.false) ∙ c.check_node_table.ensures t e)
    (λ B t L. sym (c.if-not-check_steps.true) ∙ c.check_steps.ensures B t L)

pub check_maps-requires : goal.check_maps-requires
check_maps-requires c = (branch-args _ _ _ _ _ _ _ c.requires c.args.node_table.now (answer-cells _ _ _ _ _ _ _ c.requires c.args.node_table.now c.args.state_table.now (omega arith) (λ t e. sym (c.if-not-check_node_table.false) ∙ c.check_node_table.ensures t e)) refl)

pub returns : goal.returns
returns c =
    maps-tell _ _ _ _ _ _ _ c.requires c.args.node_table.now c.args.state_table.now (omega arith)
    c.check_maps.result (λ t e. sym (c.if-not-check_node_table.false) ∙ c.check_node_table.ensures t e)
    (λ B t L. sym (c.if-not-check_steps.false) ∙ c.check_steps.ensures B t L)
    c.check_maps.ensures
