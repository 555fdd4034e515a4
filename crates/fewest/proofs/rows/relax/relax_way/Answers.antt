-- `relax_way` meets its contract.
use Rattle.state_sets.specs.StateSets.{member}
use Rattle.fewest.proofs.rows.RowLaws.{relax-none}
use Rattle.fewest.proofs.rows.relax.relax_way.Goals as goal

pub returns-then-base-ge-NO_WAY : goal.returns-then-base-ge-NO_WAY
returns-then-base-ge-NO_WAY c =
    let g = c.args in
    relax-none g.inner.now g.s g.k g.p g.q g.a (member g.labels) g.base g.row.now c.if-base-ge-NO_WAY.true c.requires.1
