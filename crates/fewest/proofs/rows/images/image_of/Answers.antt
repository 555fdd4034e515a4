-- Before the first label the set is empty; one label more.
use Rattle.fewest.proofs.rows.ImageLaws.{image-start, image-next}
use Rattle.fewest.proofs.rows.images.image_of.Goals as goal

pub loop-b-init : goal.loop-b-init
loop-b-init c = let g = c.args in image-start g.inner.now g.s g.k g.p g.q

pub loop-b-preserved : goal.loop-b-preserved
loop-b-preserved c =
    let g = c.args in
    let l = c.loop-b in
    image-next g.inner.now g.s g.k g.p g.q l.b l.r c.with_state-r.result c.rule-j.result l.invariant
    c.rule-j.ensures c.with_state-r.ensures
