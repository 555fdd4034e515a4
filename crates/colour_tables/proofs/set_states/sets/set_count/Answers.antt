-- `set_count` meets its contract: at most four places to the left.
use Prim.Native.Nat.{◌*◌, ◌%◌, ◌^◌, ◌≤◌}
use mathlib.Core.Path.{◌≡◌, ◌∙◌}
use native.Mathlib.Omega.{arith}
use native.Mathlib.Nat.{one-mul, mod-eq_of_lt}
use lib.Pow.{pow_mono}
use Rattle.colour_tables.proofs.set_states.sets.set_count.Goals as goal

pub returns : goal.returns
returns c =
    let s = c.args.s in
    let top : 2 ^ s ≤ 2 ^ 4 = pow_mono {i = s} {j = 4} c.requires in
    let e : 1 * 2 ^ s % 18446744073709551616 ≡ 2 ^ s = mod-eq_of_lt (omega (arith, one-mul (2 ^ s))) ∙ one-mul (2 ^ s)
    in
    (e, omega arith)
