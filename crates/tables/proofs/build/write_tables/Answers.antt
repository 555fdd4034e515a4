-- The links, then the states over them.
use Rattle.std.proofs.Common.{arith}
use Rattle.tables.proofs.BuildLaws.{link-args-of, table-args-of, both-written-of}
use Rattle.tables.proofs.build.write_tables.Goals as goal

pub build_node_table-requires : goal.build_node_table-requires
build_node_table-requires c =
    let g = c.args in
    link-args-of g.plan.now g.rules.now g.node_table.now g.state_table.now g.n g.s g.k c.requires

pub write_states-requires : goal.write_states-requires
write_states-requires c =
    let g = c.args in
    table-args-of g.plan.now g.rules.now g.node_table.now g.state_table.now g.n g.s g.k c.requires
    c.build_node_table.new.node_table (omega arith) c.build_node_table.ensures c.inner_count.result
    c.inner_count.ensures.value

pub returns : goal.returns
returns c =
    let g = c.args in
    both-written-of g.plan.now g.rules.now g.node_table.now g.state_table.now g.n g.s g.k c.requires
    c.build_node_table.new.node_table (omega arith) c.build_node_table.ensures c.inner_count.result
    c.inner_count.ensures.value c.write_states.new.state_table c.write_states.ensures
