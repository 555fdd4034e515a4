-- Four bytes make a number below 2 to the 32.
use Prim.Native.Nat.{◌+◌}
use native.Mathlib.Omega.{arith}
use Rattle.records.proofs.numbers.number32.Goals as goal

pub overflow_cast-result : goal.overflow_cast-result
overflow_cast-result c =
    let g = c.type_inv.bytes in
    let i = c.args.at in
    record { fits = omega (arith, g i, g (i + 1), g (i + 2), g (i + 3)) }
