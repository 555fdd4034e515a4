-- One iteration of assignments_fit, its start and its ends.
use Prim.Native.Nat.{ℕ, zero, suc, ◌+◌, ◌-◌, ◌*◌, ◌/◌, ◌^◌, ◌≤◌, ◌<◌}
use mathlib.Core.Path.{◌≡◌, sym, ap, ◌∙◌}
use mathlib.Core.Bool.{false}
use native.Mathlib.Omega.{arith}
use native.Mathlib.Numerals.{add-one}
use native.Mathlib.Nat.{mul-le-mul_right, add-mul, mul_comm, div-add-mod', mod-lt, pow-succ'}
use lib.Dec.{leb}
use borrow.Author.Tests.{lt-leb}
use Rattle.choices.specs.node_counts.Capped.{count_limit}

product-over : (a b : ℕ) → 0 < b → count_limit / b < a → count_limit < a * b
product-over a b h l =
    omega (
      arith,
      div-add-mod' count_limit b,
      mod-lt count_limit h,
      add-mul (count_limit / b) 1 b,
      mul-le-mul_right b (let z : count_limit / b + 1 ≤ a = omega arith in z),
    )

power-up : (k : ℕ) → 1 ≤ k → (i d : ℕ) → k ^ i ≤ k ^ (d + i)
power-up k h i zero = let e : 0 + i ≡ i = omega arith in omega (arith, ap (λ (n : ℕ). k ^ n) e)
power-up k h i (suc d) =
    let e : suc d + i ≡ suc (d + i) = omega arith in
    omega (
      arith,
      ap (λ (n : ℕ). k ^ n) e,
      pow-succ' k (d + i),
      mul-le-mul_right (k ^ (d + i)) h,
      power-up k h i d,
    )

pub record Powering (k m p i : ℕ) : Type 0 where
  pub some-label : 1 ≤ k
  pub upto : i ≤ m
  pub is : p ≡ k ^ i
  pub most : p ≤ count_limit

module _ (k m p i : ℕ) (L : Powering k m p i) where
  module _ (h : i < m) where
    next-is : p * k ≡ k ^ (i + 1)
    next-is = mul_comm p k ∙ ap (λ (x : ℕ). k * x) L.is ∙ sym (ap (λ (n : ℕ). k ^ n) (add-one i) ∙ pow-succ' k i)

    pub power-over : count_limit / k < p → false ≡ leb (k ^ m) count_limit
    power-over f =
        let e : m - (i + 1) + (i + 1) ≡ m = omega arith in
        sym (lt-leb (k ^ m) count_limit
        (omega (
          arith,
          product-over p k (omega (arith, L.some-label)) f,
          next-is,
          power-up k L.some-label (i + 1) (m - (i + 1)),
          ap (λ (n : ℕ). k ^ n) e,
        )))
