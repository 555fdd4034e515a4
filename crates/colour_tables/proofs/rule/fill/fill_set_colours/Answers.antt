-- `fill_set_colours` meets its contract.
use mathlib.Core.Path.{refl}
use Rattle.colour_tables.proofs.rule.FillLaws.{set-args, filled}
use Rattle.colour_tables.proofs.rule.fill.fill_set_colours.Goals as goal

pub write_sets-requires : goal.write_sets-requires
write_sets-requires c =
    set-args c.args.labels.now c.args.inner.now c.args.s c.args.k c.args.numbers.now
    c.args.bytes.now c.requires c.set_count-count.result _ c.set_count-count.ensures.0 refl

pub returns : goal.returns
returns c =
    filled c.args.labels.now c.args.inner.now c.args.s c.args.k c.args.numbers.now
    c.args.bytes.now c.requires c.set_count-count.result _ c.set_count-count.ensures.0 refl
    c.write_sets.new.bytes c.write_sets.new.numbers c.write_sets.ensures
