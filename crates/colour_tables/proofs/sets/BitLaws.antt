-- Laws of sets in a byte, by those of shifts and masks.
--     bit_is             a shift and a mask give membership
--     joined, bound      a union with one member past all others is a sum
--     image-next         one state more of a preimage
use Prim.Native.Nat.{ℕ, ◌+◌, ◌*◌, ◌/◌, ◌%◌, ◌^◌, ◌≤◌, ◌<◌}
use mathlib.Core.Path.{◌≡◌, refl, ◌∙◌}
use mathlib.Core.Bool.{Bool}
use native.Mathlib.Omega.{arith}
use native.Mathlib.Decide.{ℕ_discrete}
use native.Mathlib.Nat.{mul-le-mul_right, one-mul, pow-suc, mod-eq_of_lt}
use native.Mathlib.Numerals.{add-one}
use lib.Bits.{bit_and, bit_or, and_mask, or_shifted_r}
use lib.Dec.{eqb}
use lib.Pow.{pow_mono}
use borrow.Author.Tests.{eq-eqb, ne_eqb}
use Rattle.colours.specs.marks.Marks.{bit}
use Rattle.colours.specs.StateSets.{set_of, member}

bit-of-eqb : (x : ℕ) → x < 2 → x ≡ bit (eqb x 1)
bit-of-eqb x h = elim (ℕ_discrete x 1) [
  | yes e ↦ rw (eq-eqb x 1 e) e
  | no e ↦ rw (ne_eqb x 1 e) (omega arith)
]

pub bit_is : (t k : ℕ) → (bit_and (t / 2 ^ k) 1 ≡ bit (member t k)) × (bit_and (t / 2 ^ k) 1 < 2)
unfolding member
bit_is t k =
    let e : bit_and (t / 2 ^ k) 1 ≡ t / 2 ^ k % 2 = and_mask (t / 2 ^ k) 1 in
    let h : t / 2 ^ k % 2 < 2 = omega arith in
    (e ∙ bit-of-eqb (t / 2 ^ k % 2) h, omega arith)

pub bound : (b i r : ℕ) → b < 2 → r < 2 ^ i → b * 2 ^ i + r < 2 ^ (i + 1)
bound b i r h k =
    let p : 2 ^ (i + 1) ≡ 2 ^ i * 2 = rw add-one (pow-suc 2 i) in
    let l : b ≤ 1 = omega arith in
    let q : b * 2 ^ i ≤ 1 * 2 ^ i = mul-le-mul_right (2 ^ i) l in
    omega (arith, p, q, one-mul (2 ^ i))

pub joined : (r b i : ℕ) → b < 2 → i < 4 → r < 2 ^ i → bit_or r (b * 2 ^ i % 256) ≡ b * 2 ^ i + r
joined r b i hb hi hr =
    let lt : b * 2 ^ i + r < 2 ^ (i + 1) = bound b i r hb hr in
    let top : 2 ^ (i + 1) ≤ 2 ^ 4 = pow_mono {i = i + 1} {j = 4} (omega arith) in
    let m : b * 2 ^ i % 256 ≡ b * 2 ^ i = mod-eq_of_lt (omega arith) in
    rw m (or_shifted_r b i r hr)

pub image-start : (p : ℕ → Bool) → 0 ≡ set_of 0 p
unfolding set_of
image-start p = refl

pub image-next : (p : ℕ → Bool) (i r b : ℕ) → r ≡ set_of i p → b ≡ bit (p i) → b * 2 ^ i + r ≡ set_of (i + 1) p
unfolding set_of
image-next p i r b e f = rw (add-one i, e, f)
