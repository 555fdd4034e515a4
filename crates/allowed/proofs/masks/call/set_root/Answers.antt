-- `set_root` meets its contract.
use Prim.Native.Nat.{ℕ, ◌+◌, ◌*◌}
use mathlib.Core.Path.{ap}
use lib.ListN.{get_or, set}
use Rattle.allowed.specs.inner.masks.Root.{root_set}
use native.Mathlib.Omega.{arith}
use Rattle.allowed.proofs.masks.call.set_root.Goals as goal

pub overflow_mul-cells : goal.overflow_mul-cells
overflow_mul-cells c = omega (arith, c.marked_set-c.ensures.1)

pub overflow_add-cells : goal.overflow_add-cells
overflow_add-cells c = omega (arith, c.marked_set-c.ensures.1, c.requires.low)

pub returns : goal.returns
unfolding root_set
returns c =
    let g = c.args in
    ap (λ (x : ℕ). set g.cells.now g.root (get_or g.cells.now g.root 0 + 1048576 * x)) c.marked_set-c.ensures.0
