-- Laws of sets in a 64-bit number, by those of shifts and masks.
--     bit_is           a shift and a mask give membership
--     joined, bound    a union with one member past all others is a sum
--     gather-start, gather-next   one position more
--     sets_below, gathered-below  a set of at most 16 states is below 65,536
use Prim.Native.Nat.{ℕ, ◌+◌, ◌*◌, ◌/◌, ◌%◌, ◌^◌, ◌≤◌, ◌<◌}
use mathlib.Core.Path.{◌≡◌, refl, ◌∙◌}
use mathlib.Core.Bool.{Bool}
use mathlib.Core.List.{List}
use native.Mathlib.Omega.{arith}
use native.Mathlib.Decide.{ℕ_discrete}
use native.Mathlib.Nat.{mul-le-mul_right, one-mul, pow-suc, mod-eq_of_lt}
use native.Mathlib.Numerals.{add-one}
use lib.Bits.{bit_and, bit_or, and_mask, or_shifted_r}
use lib.Dec.{eqb}
use lib.ListN.{get_or}
use lib.Pow.{pow_mono}
use borrow.Author.Tests.{eq-eqb, ne_eqb}
use Rattle.state_sets.specs.StateSets.{bit, set_of, member}
use Rattle.state_sets.specs.inner.Gather.{gathered_from}
use Rattle.state_sets.proofs.SetLaws.{set_of-below}

bit-of-eqb : (x : ℕ) → x < 2 → x ≡ bit (eqb x 1)
bit-of-eqb x h = elim (ℕ_discrete x 1) [
  | yes e ↦ rw (eq-eqb x 1 e) e
  | no e ↦ rw (ne_eqb x 1 e) (omega arith)
]

pub bit_is : (t k : ℕ) → (bit_and (t / 2 ^ k) 1 ≡ bit (member t k)) × (bit_and (t / 2 ^ k) 1 < 2)
unfolding member
bit_is t k =
    let e : bit_and (t / 2 ^ k) 1 ≡ t / 2 ^ k % 2 = and_mask (t / 2 ^ k) 1 in
    let h : t / 2 ^ k % 2 < 2 = omega arith in
    (e ∙ bit-of-eqb (t / 2 ^ k % 2) h, omega arith)

pub bound : (b i r : ℕ) → b < 2 → r < 2 ^ i → b * 2 ^ i + r < 2 ^ (i + 1)
bound b i r h k =
    let p : 2 ^ (i + 1) ≡ 2 ^ i * 2 = rw add-one (pow-suc 2 i) in
    let l : b ≤ 1 = omega arith in
    let q : b * 2 ^ i ≤ 1 * 2 ^ i = mul-le-mul_right (2 ^ i) l in
    omega (arith, p, q, one-mul (2 ^ i))

pub joined : (r b i : ℕ) → b < 2 → i < 64 → r < 2 ^ i → bit_or r (b * 2 ^ i % 2 ^ 64) ≡ b * 2 ^ i + r
joined r b i hb hi hr =
    let lt : b * 2 ^ i + r < 2 ^ (i + 1) = bound b i r hb hr in
    let top : 2 ^ (i + 1) ≤ 2 ^ 64 = pow_mono {i = i + 1} {j = 64} (omega arith) in
    let m : b * 2 ^ i % 2 ^ 64 ≡ b * 2 ^ i = mod-eq_of_lt (omega arith) in
    rw m (or_shifted_r b i r hr)

pub gather-start : (T : List ℕ) (base stride set : ℕ) → 0 ≡ gathered_from T base stride set 0
unfolding gathered_from set_of
gather-start T base stride set = refl

pub gather-next : (T : List ℕ) (base stride set i r b : ℕ) → r ≡ gathered_from T base stride set i
    → b ≡ bit (member set (get_or T (base + i * stride) 0)) → b * 2 ^ i + r ≡ gathered_from T base stride set (i + 1)
unfolding gathered_from set_of
gather-next T base stride set i r b e f = rw (add-one i, e, f)

pub sets_below : (s : ℕ) (p : ℕ → Bool) → s ≤ 16 → set_of s p < 65536
sets_below s p h = let m : 2 ^ s ≤ 2 ^ 16 = pow_mono {i = s} {j = 16} h in omega (arith, set_of-below s p, m)

pub gathered-below : (T : List ℕ) (base stride c s : ℕ) → s ≤ 16 → gathered_from T base stride c s < 65536
unfolding gathered_from
gathered-below T base stride c s h = sets_below s (λ i. member c (get_or T (base + i * stride) 0)) h
