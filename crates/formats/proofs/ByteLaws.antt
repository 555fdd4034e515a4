-- 32-bit numbers and their bytes.
--     bytes-number        the four bytes of a number below 2 to the power 32 make the number again
--     number-bytes        the number that four bytes make has those bytes
--     read-bytes          a number that is read from bytes has the bytes that were read
use Prim.Native.Nat.{ℕ, ◌+◌, ◌*◌, ◌/◌, ◌%◌, ◌≤◌, ◌<◌}
use mathlib.Core.Path.{◌≡◌, refl, sym, ◌∙◌}
use mathlib.Core.List.{List, [], ◌∷◌}
use native.Mathlib.Omega.{arith}
use native.Mathlib.Nat.{div-div-eq-div-mul}
use native.Mathlib.Numerals.{add-one}
use lib.ListN.{length, get_or, take, drop}
use lib.Seq.{drop-cons}
use Rattle.formats.specs.Bytes.{le32, le32_bytes}

-- each byte by one division of the number above
bytes-sum : (n q₁ q₂ q₃ r₀ r₁ r₂ : ℕ) → q₁ * 256 + r₀ ≡ n → q₂ * 256 + r₁ ≡ q₁ → q₃ * 256 + r₂ ≡ q₂
    → r₀ + 256 * r₁ + 65536 * r₂ + 16777216 * q₃ ≡ n
bytes-sum n q₁ q₂ q₃ r₀ r₁ r₂ e f g = omega arith

pub bytes-number : (n : ℕ) → n < 4294967296
    → n % 256 + 256 * (n / 256 % 256) + 65536 * (n / 65536 % 256) + 16777216 * (n / 16777216 % 256) ≡ n
bytes-number n h =
    let e : n / 256 / 256 ≡ n / 65536 = div-div-eq-div-mul n 256 256 in
    let f : n / 65536 / 256 ≡ n / 16777216 = div-div-eq-div-mul n 65536 256 in
    let g : n / 16777216 % 256 ≡ n / 16777216 = omega arith in
    rw g
    (bytes-sum n (n / 256) (n / 65536) (n / 16777216) (n % 256) (n / 256 % 256) (n / 65536 % 256) (omega arith)
    (rw (← e) (omega arith)) (rw (← f) (omega arith)))

pub last_byte : (n b q : ℕ) → n ≡ b + 256 * q → b < 256 → n % 256 ≡ b
last_byte n b q e h = omega arith

pub number-bytes : (a b c d : ℕ) → a < 256 → b < 256 → c < 256 → d < 256
    → le32_bytes (a + 256 * b + 65536 * c + 16777216 * d) ≡ a ∷ b ∷ c ∷ d ∷ []
number-bytes a b c d ha hb hc hd =
    let n : ℕ = a + 256 * b + 65536 * c + 16777216 * d in
    let e : n % 256 ≡ a = last_byte n a (b + 256 * c + 65536 * d) (omega arith) ha in
    let f : n / 256 % 256 ≡ b = last_byte (n / 256) b (c + 256 * d) (omega arith) hb in
    let g : n / 65536 % 256 ≡ c = last_byte (n / 65536) c d (omega arith) hc in
    let i : n / 16777216 % 256 ≡ d = last_byte (n / 16777216) d 0 (omega arith) hd in
    cc

from : (l : List ℕ) (i j : ℕ) → j ≡ i + 1 → i < length l → drop i l ≡ get_or l i 0 ∷ drop j l
from l i j e h = rw (e, add-one) (drop-cons l i 0 h)

pub four_bytes : (b : List ℕ) (at : ℕ) → at + 4 ≤ length b
    → take 4 (drop at b) ≡ get_or b at 0 ∷ get_or b (at + 1) 0 ∷ get_or b (at + 2) 0 ∷ get_or b (at + 3) 0 ∷ []
four_bytes b at h =
    let e : drop at b ≡ get_or b at 0 ∷ drop (at + 1) b = from b at (at + 1) refl (omega arith) in
    let f : drop (at + 1) b ≡ get_or b (at + 1) 0 ∷ drop (at + 2) b = from b (at + 1) (at + 2) (omega arith) (omega arith) in
    let g : drop (at + 2) b ≡ get_or b (at + 2) 0 ∷ drop (at + 3) b = from b (at + 2) (at + 3) (omega arith) (omega arith) in
    let i : drop (at + 3) b ≡ get_or b (at + 3) 0 ∷ drop (at + 4) b = from b (at + 3) (at + 4) (omega arith) (omega arith) in
    rw (e, f, g, i)

-- a number that is read gives its four bytes again
module _ (b : List ℕ) (below : (i : ℕ) → get_or b i 0 < 256) where
  pub read-bytes : (at : ℕ) → at + 4 ≤ length b → le32_bytes (le32 b at) ≡ take 4 (drop at b)
  read-bytes at h =
      number-bytes (get_or b at 0) (get_or b (at + 1) 0) (get_or b (at + 2) 0) (get_or b (at + 3) 0) (below at) (below (at + 1)) (below (at + 2))
      (below (at + 3))
      ∙ sym (four_bytes b at h)
