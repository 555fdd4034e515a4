-- `successors_down` meets its contract, at the root and below it.
use mathlib.Core.Path.{sym}
use Rattle.colour_tables.proofs.set_states.DownLaws.{down-root, count_is, image-args, down-successors}
use Rattle.colour_tables.proofs.set_states.down.successors_down.Goals as goal

pub returns-then-v-n : goal.returns-then-v-n
returns-then-v-n c =
    down-root c.args.row c.args.labels.now c.args.numbers.now c.args.inner.now
    c.args.bytes.now c.args.n c.args.s c.args.k c.args.count c.args.v c.requires c.if-v-n.true

pub slice_bounds-successors_by_set-end : goal.slice_bounds-successors_by_set-end
slice_bounds-successors_by_set-end c =
    sym (count_is c.args.row c.args.labels.now c.args.numbers.now c.args.inner.now
    c.args.bytes.now c.args.n c.args.s c.args.k c.args.count c.args.v c.requires
    c.if-v-n.false c.states_above-above.result c.states_above-above.ensures)

pub successors_by_set-requires : goal.successors_by_set-requires
successors_by_set-requires c =
    image-args c.args.row c.args.labels.now c.args.numbers.now c.args.inner.now
    c.args.bytes.now c.args.n c.args.s c.args.k c.args.count c.args.v c.requires
    c.if-v-n.false c.states_above-above.result c.states_above-above.ensures

pub returns : goal.returns
returns c =
    down-successors c.args.row c.args.labels.now c.args.numbers.now c.args.inner.now c.args.bytes.now
    c.args.n c.args.s c.args.k c.args.count c.args.v c.requires c.if-v-n.false
    c.states_above-above.result c.states_above-above.ensures c.successors_by_set.result c.successors_by_set.ensures
