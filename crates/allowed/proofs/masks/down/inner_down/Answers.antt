-- `inner_down` meets its contract.
use Prim.Native.Nat.{ℕ, ◌+◌, ◌-◌, ◌*◌}
use mathlib.Core.Path.{◌≡◌}
use mathlib.Core.List.{List}
use lib.ListN.{get_or, set, length-set}
use Rattle.allowed.specs.inner.masks.Down.{inner_down}
use Rattle.allowed.specs.inner.masks.Up.{left_within}
use native.Mathlib.Omega.{arith}
use Rattle.allowed.proofs.masks.down.inner_down.Goals as goal

-- three stores of equal numbers
stored : (b : List ℕ) (r l v x y p q p' q' m m' : ℕ) → p ≡ p' → q ≡ q' → m ≡ m'
    → set (set (set b r (x + 1048576 * p)) l (y + 1048576 * q)) v m ≡ set (set (set b r (x + 1048576 * p')) l (y + 1048576 * q')) v m'
stored b r l v x y p q p' q' m m' e f g = rw (e, f, g)

pub bounds-cells-left-2 : goal.bounds-cells-left-2
bounds-cells-left-2 c =
    simp length-set (omega (arith, c.requires.inside, c.requires.pos))

pub returns : goal.returns
unfolding inner_down
returns c =
    let g = c.args in
    let b = g.cells.now in
    stored b (g.v - 1) (left_within b g.v) g.v (get_or b (g.v - 1) 0) (get_or b (left_within b g.v) 0)
    c.right_set-r.result c.left_set-l.result _ _ c.inner_labels-m.result _
    c.right_set-r.ensures.0 c.left_set-l.ensures.0 c.inner_labels-m.ensures
