-- `relax_image` meets its contract: by the node's own label, then by the set.
use Rattle.state_sets.specs.StateSets.{member}
use Rattle.fewest.proofs.rows.ImageLaws.{image-relaxed}
use Rattle.fewest.proofs.rows.images.relax_image.Goals as goal

pub returns : goal.returns
returns c =
    let g = c.args in
    image-relaxed g.inner.now g.s g.k g.p g.q g.a (member g.labels) g.base g.image c.requires.0 g.row.now
    c.lower_own.new.row c.lower_set.new.row c.lower_own.ensures c.lower_set.ensures
