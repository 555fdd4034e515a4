-- Each listed inner node writes its children's maps, from the last one down; leaves between two of them are passed by.
use Rattle.std.proofs.Common.{arith, ap, subst, length, ℕ, ◌∙◌, ◌≡◌}
use Rattle.tables.specs.node_tables.inner.InnerNodes.{from}
use Rattle.tables.specs.inner.MapPairs.{Pairs}
use Rattle.tables.proofs.node_tables.InnerNodeLaws.{from_zero}
use Rattle.tables.proofs.MapLoop.{pairs-down, list-args, listed-pair-args, listed-pairs}
use Rattle.tables.proofs.maps.fill_block.Goals as goal

pub list_inner-c-requires : goal.list_inner-c-requires
list_inner-c-requires c =
    let g = c.args in
    list-args g.kinds.now g.labels.now g.node_table.now g.inner.now g.s g.k c.requires.first c.requires.args g.b g.e
    (length g.list.now) c.requires.order c.requires.inside c.requires.fits

pub loop-i-init : goal.loop-i-init
loop-i-init c first W =
    let g = c.args in
    pairs-down g.kinds.now g.labels.now g.node_table.now g.inner.now g.s g.k first g.state_table.now
    (from g.b c.list_inner-c.new.list c.list_inner-c.result) g.e c.list_inner-c.ensures.rest W

pub fill_children-requires : goal.fill_children-requires
fill_children-requires c =
    let g = c.args in
    listed-pair-args g.kinds.now g.labels.now g.node_table.now g.inner.now g.s g.k c.requires.first c.loop-i.state_table
    g.b g.e c.list_inner-c.new.list c.list_inner-c.result c.loop-i.i c.list_inner-c.ensures (omega arith) (omega arith)
    c.requires.inside (c.loop-i.invariant c.requires.first c.requires.done) c.requires.args
    (omega (arith, c.requires.same))

pub loop-i-preserved : goal.loop-i-preserved
loop-i-preserved c first W =
    let g = c.args in
    listed-pairs g.kinds.now g.labels.now g.node_table.now g.inner.now g.s g.k first c.loop-i.state_table g.b g.e
    c.list_inner-c.new.list c.list_inner-c.result c.loop-i.i c.list_inner-c.ensures (omega arith) (omega arith)
    c.requires.inside (c.loop-i.invariant first W) c.requires.args.rules.inner_below c.fill_children.new.state_table
    c.fill_children.ensures

pub returns : goal.returns
returns c first W =
    let g = c.args in
    let z : c.loop-i.i ≡ 0 = omega arith in
    subst (λ (x : ℕ). Pairs g.kinds.now g.labels.now g.node_table.now g.inner.now g.s g.k x first c.loop-i.state_table)
    (ap (from g.b c.list_inner-c.new.list) z ∙ from_zero g.b c.list_inner-c.new.list) (c.loop-i.invariant first W)
