-- `write_rule_colours` meets its contract: the tables of a Load first, then the rest.
use mathlib.Core.Path.{◌∙◌}
use Rattle.colour_tables.proofs.rule.TableLaws.{table-args, parts-filled, parts-written}
use Rattle.colour_tables.proofs.rule.fill.write_rule_colours.Goals as goal

pub write_tables-requires : goal.write_tables-requires
write_tables-requires c =
    table-args c.args.plan.now c.args.rules.now c.args.n c.args.s c.args.k c.args.numbers.now
    c.args.bytes.now c.requires

pub fill_set_colours-requires : goal.fill_set_colours-requires
fill_set_colours-requires c =
    parts-filled c.args.plan.now c.args.rules.now c.args.n c.args.s c.args.k
    c.args.numbers.now
    c.args.bytes.now c.requires c.write_tables.new.node_table c.write_tables.new.state_table
    c.write_tables.ensures c.inner_count.result c.inner_count.ensures.value
    c.write_tables.auto.node_table c.write_tables.auto.state_table

pub returns : goal.returns
returns c =
    parts-written c.args.plan.now c.args.rules.now c.args.n c.args.s c.args.k
    c.args.numbers.now
    c.args.bytes.now c.requires c.write_tables.new.node_table c.write_tables.new.state_table
    c.write_tables.ensures c.inner_count.result c.inner_count.ensures.value
    c.fill_set_colours.new.numbers c.fill_set_colours.new.bytes
    (c.fill_set_colours.auto.numbers ∙ c.write_tables.auto.node_table)
    (c.fill_set_colours.auto.bytes ∙ c.write_tables.auto.state_table) c.fill_set_colours.ensures
