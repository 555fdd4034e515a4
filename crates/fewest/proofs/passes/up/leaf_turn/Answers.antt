-- `leaf_turn` meets its contract: the row is lowered, then copied.
use Rattle.state_sets.specs.StateSets.{member}
use Rattle.fewest.specs.inner.Rows.{leaf_costs}
use Rattle.fewest.proofs.passes.PutLoop.{row-filled}
use Rattle.fewest.proofs.passes.UpLoop.{leaf-low}
use Rattle.fewest.proofs.passes.up.leaf_turn.Goals as goal

pub returns : goal.returns
returns c =
    let g = c.args in
    row-filled g.s g.v 1 (leaf_costs g.leaves.now g.k g.a (member g.labels)) c.relax_leaf.new.row g.work.now
    c.put_row.new.work c.requires.few (leaf-low g.leaves.now g.k g.a (member g.labels)) c.relax_leaf.ensures c.put_row.ensures
