-- `inner_down` meets its contract.
use Prim.Native.Nat.{ℕ, ◌/◌, ◌%◌}
use mathlib.Core.Path.{sym, subst}
use lib.ListN.{get_or}
use Rattle.allowed.specs.inner.Sets.{SetArgs}
use Rattle.allowed.proofs.clearing.DownLoop.{inner_made, inner-returned}
use Rattle.allowed.proofs.clearing.down.inner_down.Goals as goal

pub right_set-r-requires : goal.right_set-r-requires
right_set-r-requires c =
    let g = c.args in
    subst (λ (f : ℕ). SetArgs g.inner.now g.s g.k (get_or g.cells.now f 0 % 16) g.a (get_or g.cells.now f 0 / 16 % 16))
    (sym c.first_of-f.ensures) c.requires.sets

pub left_set-l-requires : goal.left_set-l-requires
left_set-l-requires c =
    let g = c.args in
    subst (λ (f : ℕ). SetArgs g.inner.now g.s g.k (get_or g.cells.now f 0 % 16) g.a (get_or g.cells.now f 0 / 16 % 16))
    (sym c.first_of-f.ensures) c.requires.sets

pub returns : goal.returns
returns c =
    let g = c.args in (
      inner_made g.kinds.now g.inner.now g.s g.k g.cells.now g.v g.a g.c c.first_of-f.result
          c.first_of-f.ensures c.left_set-l.result c.left_set-l.ensures.0,
      inner-returned g.kinds.now g.inner.now g.s g.k g.cells.now g.v g.a g.c c.first_of-f.result
          c.first_of-f.ensures c.right_set-r.result c.right_set-r.ensures.0,
    )
