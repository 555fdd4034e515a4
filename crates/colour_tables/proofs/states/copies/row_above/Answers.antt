use Rattle.colour_tables.proofs.states.RowLoop.{above-top, above_parent}
use Rattle.colour_tables.proofs.states.copies.row_above.Goals as goal

pub returns-then-v-n : goal.returns-then-v-n
returns-then-v-n c =
    above-top c.args.bytes.now c.args.numbers.now c.args.n c.args.base c.args.k c.args.v
    c.if-v-n.true c.requires.few

pub returns : goal.returns
returns c =
    above_parent c.args.bytes.now c.args.numbers.now c.args.n c.args.base c.args.k c.args.v
    c.parent_at-p.result c.row_at.result c.if-v-n.false c.parent_at-p.ensures c.row_at.ensures
