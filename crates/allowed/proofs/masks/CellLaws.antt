-- A number's three parts.
use Prim.Native.Nat.{ℕ, ◌<◌}
use mathlib.Core.Path.{◌≡◌}
use native.Mathlib.Omega.{arith}
use Rattle.allowed.specs.inner.masks.Cells.{packed_cell, size_in, state_in, set_in}

module _ (z q c : ℕ) (hz : z < 65536) (hq : q < 16) where
  pub size-packed : size_in (packed_cell z q c) ≡ z
  size-packed = omega arith

  pub state-packed : state_in (packed_cell z q c) ≡ q
  state-packed = omega arith

  pub set-packed : c < 65536 → set_in (packed_cell z q c) ≡ c
  set-packed h = omega arith
