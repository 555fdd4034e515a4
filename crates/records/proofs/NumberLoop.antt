-- One iteration, and the end, of the loops that write the bytes of numbers and read numbers from bytes.
--     put-iteration, put-end
--     get-iteration, get-end
-- Each keeps: the part that is done as the definition has it, and behind it what was there.
use Prim.Native.Nat.{ℕ, suc, ◌+◌, ◌*◌, ◌/◌, ◌%◌, ◌≤◌, ◌<◌}
use mathlib.Core.Path.{◌≡◌, refl, ap, ◌∙◌}
use mathlib.Core.List.{List, [], ◌∷◌, ◌++◌, append_assoc, append-nil}
use native.Mathlib.Nat.{suc-add}
use native.Mathlib.Numerals.{add-one}
use native.Mathlib.Omega.{arith}
use lib.ListN.{length, get_or, take, drop, set, length-drop, drop_of_length-le}
use lib.Seq.{drop-cons, set_at, take-suc, take_all, length-take-le, drop-drop}
use Rattle.records.specs.Layout.{numbers16, bytes16}
use Rattle.records.proofs.NumberLaws.{bytes16-length, bytes16-snoc, numbers16-length, numbers16-snoc}

-- a list whose first part is done and of which nothing is left
whole : (d p d₀ : List ℕ) (j : ℕ) → length d₀ ≤ j → d ≡ p ++ drop j d₀ → d ≡ p
whole d p d₀ j h e = e ∙ (ap (λ (t : List ℕ). p ++ t) (drop_of_length-le d₀ h) ∙ append-nil p)

-- ---- the bytes of numbers

two_at : (p l : List ℕ) (n a b : ℕ) → length p ≡ n → 2 ≤ length l
    → set (set (p ++ l) n a) (n + 1) b ≡ p ++ (a ∷ b ∷ drop 2 l)
two_at [] [] n a b e h = absurd (let z : 2 ≤ 0 = h in omega arith)
two_at [] (x ∷ []) n a b e h = absurd (let z : 2 ≤ 1 = h in omega arith)
two_at [] (x ∷ y ∷ l) n a b e h = rw (← e)
two_at (q ∷ p) l n a b e h =
    rw (← e, suc-add) (ap (λ (t : List ℕ). q ∷ t) (two_at p l (length p) a b refl h))

pub put-iteration : (s d₀ d : List ℕ) (i a b : ℕ) → i < length s → length d₀ ≡ 2 * length s → a ≡ get_or s i 0 % 256
    → b ≡ get_or s i 0 / 256 % 256 → d ≡ bytes16 (take i s) ++ drop (2 * i) d₀
    → set (set d (2 * i) a) (2 * i + 1) b ≡ bytes16 (take (i + 1) s) ++ drop (2 * (i + 1)) d₀
put-iteration s d₀ d i a b h e f g o =
    let t : length (take i s) ≡ i = length-take-le i s (omega arith) in
    let p : length (bytes16 (take i s)) ≡ 2 * i = bytes16-length (take i s) ∙ ap (λ (n : ℕ). 2 * n) t in
    let q : 2 ≤ length (drop (2 * i) d₀) = simp length-drop (omega arith) in
    let m : 2 * (i + 1) ≡ 2 * i + 2 = omega arith in
    rw (
      o,
      two_at (bytes16 (take i s)) (drop (2 * i) d₀) (2 * i) a b p q,
      drop-drop,
      m,
      add-one i,
      take-suc s i 0 h,
      bytes16-snoc,
      ← f,
      ← g,
      append_assoc,
    )

pub put-end : (s d₀ d : List ℕ) (i : ℕ) → length s ≤ i → length d₀ ≡ 2 * length s
    → d ≡ bytes16 (take i s) ++ drop (2 * i) d₀ → d ≡ bytes16 s
put-end s d₀ d i h e o = whole d (bytes16 (take i s)) d₀ (2 * i) (omega arith) o ∙ ap bytes16 (take_all i s h)

-- ---- the numbers of bytes

take-two : (b : List ℕ) (j : ℕ) → j + 2 ≤ length b → take (j + 2) b ≡ take j b ++ (get_or b j 0 ∷ get_or b (j + 1) 0 ∷ [])
take-two b j h =
    let e : j + 2 ≡ suc (j + 1) = omega arith in
    rw (e, take-suc b (j + 1) 0 (omega arith), add-one j, take-suc b j 0 (omega arith), append_assoc)

pub get-iteration : (b d₀ d : List ℕ) (i v : ℕ) → i < length d₀ → length b ≡ 2 * length d₀
    → v ≡ get_or b (2 * i) 0 + 256 * get_or b (2 * i + 1) 0 → d ≡ numbers16 (take (2 * i) b) ++ drop i d₀
    → set d i v ≡ numbers16 (take (2 * (i + 1)) b) ++ drop (i + 1) d₀
get-iteration b d₀ d i v h e f o =
    let t : length (take (2 * i) b) ≡ 2 * i = length-take-le (2 * i) b (omega arith) in
    let m : 2 * (i + 1) ≡ 2 * i + 2 = omega arith in
    rw (
      o,
      drop-cons d₀ i 0 h,
      set_at (numbers16 (take (2 * i) b)) (get_or d₀ i 0) (drop (suc i) d₀) v i (numbers16-length (take (2 * i) b) i t),
      m,
      take-two b (2 * i) (omega arith),
      numbers16-snoc (take (2 * i) b) (get_or b (2 * i) 0) (get_or b (2 * i + 1) 0) i t,
      ← f,
      add-one i,
      append_assoc,
    )

pub get-end : (b d₀ d : List ℕ) (i : ℕ) → length d₀ ≤ i → length b ≡ 2 * length d₀
    → d ≡ numbers16 (take (2 * i) b) ++ drop i d₀ → d ≡ numbers16 b
get-end b d₀ d i h e o = whole d (numbers16 (take (2 * i) b)) d₀ i h o ∙ ap numbers16 (take_all (2 * i) b (omega arith))
