-- `buffers_fit` meets its contract.
use mathlib.Core.Path.{sym, ◌∙◌}
use Rattle.formats.proofs.BufferLaws.{plan-no, table-no, buffers-end}
use Rattle.formats.proofs.buffers.buffers_fit.Goals as goal

pub returns-then-plan-n : goal.returns-then-plan-n
returns-then-plan-n c =
    let g = c.args in
    sym (plan-no g.n g.s g.exact g.plan g.table g.node_table g.state_table c.if-plan-n.true)

pub returns-then-table-exact : goal.returns-then-table-exact
returns-then-table-exact c =
    let g = c.args in
    sym (table-no g.n g.s g.exact g.plan g.table g.node_table g.state_table c.if-plan-n.false c.if-table-exact.true)

pub room_fits-requires : goal.room_fits-requires
room_fits-requires c = c.requires

pub returns : goal.returns
returns c =
    let g = c.args in
    c.room_fits.ensures
    ∙ sym (buffers-end g.n g.s g.exact g.plan g.table g.node_table g.state_table c.if-plan-n.false c.if-table-exact.false)
