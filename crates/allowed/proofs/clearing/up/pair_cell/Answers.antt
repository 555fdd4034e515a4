-- `pair_cell` meets its contract.
use Rattle.allowed.proofs.clearing.UpLoop.{pair_made}
use Rattle.allowed.proofs.clearing.up.pair_cell.Goals as goal

pub rule-to-requires : goal.rule-to-requires
rule-to-requires c = rw (c.state_of-p.ensures, c.state_of-q.ensures) c.requires.rule

pub returns : goal.returns
returns c =
    let g = c.args in
    pair_made g.kinds.now g.labels.now g.leaves.now g.inner.now g.s g.k g.cells.now g.f g.v
    c.state_of-p.result c.state_of-q.result c.rule-to.result c.state_of-p.ensures c.state_of-q.ensures c.rule-to.ensures
