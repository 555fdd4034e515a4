-- Numbers of two bytes, and runs of them.
--     bytes-two, two_bytes        a number below 65,536 from its two bytes, and the bytes of what two bytes make
--     bytes16-length, numbers16-length
--     bytes16-snoc, numbers16-snoc
--                                 with one more number at the end
--     numbers-bytes               the numbers of the bytes of numbers below 65,536 are those numbers
--     bytes-numbers               the bytes of the numbers of an even run of bytes are those bytes
--     bytes16-fit, numbers16-fit  bytes are below 256, and numbers of bytes below 65,536
-- Not here: the loops that read and write such runs (NumberLoop).
use Prim.Native.Nat.{ℕ, zero, suc, ◌+◌, ◌*◌, ◌/◌, ◌%◌, ◌<◌}
use mathlib.Core.Path.{◌≡◌, refl, ap, ◌∙◌}
use mathlib.Core.List.{List, [], ◌∷◌, ◌++◌}
use native.Mathlib.Omega.{arith}
use lib.ListN.{length, get_or}
use Rattle.formats.proofs.ByteLaws.{last_byte}
use Rattle.formats.specs.Bytes.{le16_bytes}
use Rattle.records.specs.Layout.{numbers16, bytes16, Bytes}

pub bytes-two : (n : ℕ) → n < 65536 → n % 256 + 256 * (n / 256 % 256) ≡ n
bytes-two n h = omega arith

pub two_bytes : (a b : ℕ) → a < 256 → b < 256 → le16_bytes (a + 256 * b) ≡ a ∷ b ∷ []
two_bytes a b h k =
    let n : ℕ = a + 256 * b in
    let e : n % 256 ≡ a = last_byte n a b refl h in
    let f : n / 256 % 256 ≡ b = last_byte (n / 256) b 0 (omega arith) k in
    cc

pub bytes16-length : (l : List ℕ) → length (bytes16 l) ≡ 2 * length l
unfolding bytes16
bytes16-length [] = refl
bytes16-length (n ∷ l) = let h = bytes16-length l in omega arith

pub bytes16-snoc : (l : List ℕ) (n : ℕ) → bytes16 (l ++ (n ∷ [])) ≡ bytes16 l ++ (n % 256 ∷ n / 256 % 256 ∷ [])
unfolding bytes16
bytes16-snoc [] n = refl
bytes16-snoc (m ∷ l) n = ap (λ (t : List ℕ). m % 256 ∷ m / 256 % 256 ∷ t) (bytes16-snoc l n)

pub numbers16-length : (l : List ℕ) (k : ℕ) → length l ≡ 2 * k → length (numbers16 l) ≡ k
unfolding numbers16
numbers16-length [] k e = omega arith
numbers16-length (a ∷ []) k e = absurd (let z : 1 ≡ 2 * k = e in omega arith)
numbers16-length (a ∷ b ∷ l) zero e = absurd (let z : suc (suc (length l)) ≡ 0 = e in omega arith)
numbers16-length (a ∷ b ∷ l) (suc k) e =
    let z : suc (suc (length l)) ≡ 2 * suc k = e in
    ap suc (numbers16-length l k (omega arith))

pub numbers16-snoc : (l : List ℕ) (a b k : ℕ) → length l ≡ 2 * k
    → numbers16 (l ++ (a ∷ b ∷ [])) ≡ numbers16 l ++ ((a + 256 * b) ∷ [])
unfolding numbers16
numbers16-snoc [] a b k e = refl
numbers16-snoc (c ∷ []) a b k e = absurd (let z : 1 ≡ 2 * k = e in omega arith)
numbers16-snoc (c ∷ d ∷ l) a b zero e = absurd (let z : suc (suc (length l)) ≡ 0 = e in omega arith)
numbers16-snoc (c ∷ d ∷ l) a b (suc k) e =
    let z : suc (suc (length l)) ≡ 2 * suc k = e in
    ap (λ (t : List ℕ). (c + 256 * d) ∷ t) (numbers16-snoc l a b k (omega arith))

pub numbers-bytes : (l : List ℕ) → ((i : ℕ) → get_or l i 0 < 65536) → numbers16 (bytes16 l) ≡ l
unfolding numbers16 bytes16
numbers-bytes [] h = refl
numbers-bytes (n ∷ l) h = rw (bytes-two n (h 0)) (ap (λ (t : List ℕ). n ∷ t) (numbers-bytes l (λ i. h (suc i))))

pub bytes-numbers : (l : List ℕ) (k : ℕ) → length l ≡ 2 * k → Bytes l → bytes16 (numbers16 l) ≡ l
unfolding numbers16 bytes16
bytes-numbers [] k e h = refl
bytes-numbers (a ∷ []) k e h = absurd (let z : 1 ≡ 2 * k = e in omega arith)
bytes-numbers (a ∷ b ∷ l) zero e h = absurd (let z : suc (suc (length l)) ≡ 0 = e in omega arith)
bytes-numbers (a ∷ b ∷ l) (suc k) e h =
    let z : suc (suc (length l)) ≡ 2 * suc k = e in
    ap (λ (t : List ℕ). t ++ bytes16 (numbers16 l)) (two_bytes a b (h 0) (h 1))
    ∙ ap (λ (t : List ℕ). a ∷ b ∷ t) (bytes-numbers l k (omega arith) (λ i. h (suc (suc i))))

pub bytes16-fit : (l : List ℕ) → Bytes (bytes16 l)
unfolding bytes16
bytes16-fit [] i = omega arith
bytes16-fit (n ∷ l) zero = omega arith
bytes16-fit (n ∷ l) (suc zero) = omega arith
bytes16-fit (n ∷ l) (suc (suc i)) = bytes16-fit l i

pub numbers16-fit : (l : List ℕ) → Bytes l → (i : ℕ) → get_or (numbers16 l) i 0 < 65536
unfolding numbers16
numbers16-fit [] h i = omega arith
numbers16-fit (a ∷ []) h i = omega arith
numbers16-fit (a ∷ b ∷ l) h zero = let p = h 0 in let q = h 1 in omega arith
numbers16-fit (a ∷ b ∷ l) h (suc i) = numbers16-fit l (λ j. h (suc (suc j))) i
