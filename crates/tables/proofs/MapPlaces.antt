-- The index of a rule, while it is computed, is small enough for the machine's numbers.
--     Small, small           the intermediate numbers
use Prim.Native.Nat.{ℕ, ◌+◌, ◌*◌, ◌≤◌, ◌<◌}
use native.Mathlib.Nat.{mul-le-mul_right}
use native.Mathlib.Omega.{arith}

pub record Small (s k x a : ℕ) : Type 0 where
  pub product : x * k < 65536
  pub sum : x * k + a < 65536
  pub place : (x * k + a) * s < 4294967296
  pub label : a * s < 65536

pub small : (s k x a : ℕ) → s ≤ 16 → k ≤ 64 → a < k → x < 256 → Small s k x a
small s k x a hs hk ha hx =
    let e : x ≤ 256 = omega arith in
    let p : x * k ≤ 256 * k = mul-le-mul_right k e in
    let f : x * k + a ≤ 65536 = omega arith in
    let g : a ≤ 64 = omega arith in
    record {
      product = omega arith;
      sum = omega arith;
      place = omega (arith, mul-le-mul_right s f);
      label = omega (arith, mul-le-mul_right s g);
    }
