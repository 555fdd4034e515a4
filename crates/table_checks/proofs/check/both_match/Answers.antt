-- `check::both_match` meets its contract.
use Rattle.table_checks.proofs.PartLaws.{both-args-of, both-tells}
use Rattle.table_checks.proofs.check.both_match.Goals as goal

pub tables_match-requires : goal.tables_match-requires
tables_match-requires c =
    let g = c.args in
    let i = c.inner_count in
    both-args-of g.plan.now g.rules.now g.node_table.now g.state_table.now g.n g.s g.k
    c.requires i.result i.ensures.value

pub returns : goal.returns
returns c =
    let g = c.args in
    let i = c.inner_count in
    both-tells g.plan.now g.rules.now g.node_table.now g.state_table.now g.n g.s g.k c.requires
    i.result i.ensures.value c.tables_match.result c.tables_match.ensures
