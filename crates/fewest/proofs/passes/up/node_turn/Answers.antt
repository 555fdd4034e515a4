-- `node_turn` meets its contract, by the node's kind.
use Rattle.fewest.proofs.passes.UpLoop.{leaf-turned, inner-turned}
use Rattle.fewest.proofs.rows.ImageLaws.{images-fit}
use Rattle.fewest.proofs.passes.up.node_turn.Goals as goal

pub returns-then-kinds-v-eq0 : goal.returns-then-kinds-v-eq0
returns-then-kinds-v-eq0 c =
    let g = c.args in
    leaf-turned g.kinds.now g.labels.now g.leaves.now g.inner.now g.may.now g.s g.k g.work.now
    c.leaf_turn.new.work g.v c.if-kinds-v-eq0.true c.stock-m.result c.stock-m.ensures c.leaf_turn.ensures

pub inner_turn-requires : goal.inner_turn-requires
inner_turn-requires c =
    let g = c.args in (
      c.requires.0.inner c.if-kinds-v-eq0.false,
      images-fit g.inner.now g.s g.k g.labels.now g.may.now g.v c.stock-m.result g.images.now c.requires.0.leaf.labels
          c.stock-m.ensures c.requires.1,
    )

pub returns : goal.returns
returns c =
    let g = c.args in
    inner-turned g.kinds.now g.labels.now g.leaves.now g.inner.now g.may.now g.s g.k g.work.now
    c.inner_turn.new.work g.v c.if-kinds-v-eq0.false c.stock-m.result c.stock-m.ensures c.inner_turn.ensures
