-- One pair more; at the end all are written.
use Rattle.std.proofs.Common.{◌≡◌, ℕ, ◌*◌, length, subst, arith}
use Rattle.fewest.proofs.rows.ImageLaws.{FilledTo, images-all}
use Rattle.fewest.proofs.rows.images.fill_images.Goals as goal

pub returns : goal.returns
returns c =
    let g = c.args in
    let l = c.loop-i in
    let e : l.i ≡ g.s * g.s = omega arith in
    images-all g.inner.now g.s g.k (length g.images.now) c.requires l.images l.invariant.0
    (subst (λ (i : ℕ). FilledTo g.inner.now g.s g.k i l.images) e l.invariant.1)
