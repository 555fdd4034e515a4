-- `fill_colours` meets its contract: its two writers, one after the other.
use mathlib.Core.Path.{refl, ◌∙◌}
use Rattle.colour_tables.proofs.branch.FillLaws.{node-args, word-args, filled}
use Rattle.colour_tables.proofs.branch.fill.fill_colours.Goals as goal

pub build_node_table-requires : goal.build_node_table-requires
build_node_table-requires c =
    node-args _ _ _ _ _ _ _ c.requires

pub write_words-requires : goal.write_words-requires
write_words-requires c =
    let t = c.build_node_table in
    word-args _ _ _ _ _ _ _ c.requires c.args.numbers.now t.new.node_table t.ensures t.auto.node_table
    c.args.bytes.now refl

pub returns : goal.returns
returns c =
    let t = c.build_node_table in
    let w = c.write_words in
    filled _ _ _ _ _ _ _ c.requires c.args.numbers.now t.new.node_table t.ensures t.auto.node_table
    c.args.bytes.now w.new.bytes w.new.numbers w.ensures refl
    (w.auto.numbers ∙ t.auto.node_table) refl w.auto.bytes
