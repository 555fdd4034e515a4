-- The lowest clear bit of a number, and a set of states with one more.
--     complement       a number and its complement have no bit in common
--     LowBit, low_bit  t + 1 and the complement of t have one bit in common, the lowest clear bit of t
--     place_found      the place of the one bit set, by the table
--     set-add          one more member adds its bit
use Prim.Native.Nat.{ℕ, zero, suc, ◌+◌, ◌-◌, ◌*◌, ◌/◌, ◌%◌, ◌^◌, ◌≤◌, ◌<◌}
use mathlib.Core.Path.{◌≡◌, refl, sym, ap, ap₂, ◌∙◌}
use mathlib.Core.Bool.{Bool, true, false, cond}
use mathlib.Core.List.{List, [], ◌∷◌}
use native.Mathlib.Omega.{arith}
use native.Mathlib.Nat.{pow-succ'}
use native.Mathlib.Decide.{ℕ_discrete}
use lib.Bits.{bit_and, and_step, and_zero_l}
use lib.Dec.{eqb}
use lib.ListN.{get_or}
use borrow.Author.Tests.{eqb-true}
use Rattle.list_laws.proofs.BoolLaws.{true-false}
use Rattle.colours.specs.marks.Marks.{bit}
use Rattle.colours.specs.StateSets.{set_of, member}
use Rattle.colours.proofs.BitLaws.{member-zero, member-suc}

-- ---- the lowest clear bit

pub complement : (n t : ℕ) → t < 2 ^ n → bit_and t (2 ^ n - 1 - t) ≡ 0
complement zero t h =
    let e : t ≡ 0 = omega arith in ap (λ (x : ℕ). bit_and x (2 ^ zero - 1 - t)) e ∙ and_zero_l (2 ^ zero - 1 - t)
complement (suc n) t h =
    let p : 2 ^ suc n ≡ 2 * 2 ^ n = pow-succ' 2 n in
    let l : t / 2 < 2 ^ n = omega (arith, p) in
    let d : (2 ^ suc n - 1 - t) / 2 ≡ 2 ^ n - 1 - t / 2 = omega (arith, p) in
    let m : (2 ^ suc n - 1 - t) % 2 ≡ 1 - t % 2 = omega (arith, p) in
    let z : bit_and (t / 2) ((2 ^ suc n - 1 - t) / 2) ≡ 0 = ap (bit_and (t / 2)) d ∙ complement n (t / 2) l in
    omega (arith, and_step t (2 ^ suc n - 1 - t), z, m)

pub record LowBit (n t b : ℕ) : Type 0 where
  pub place : ℕ
  pub within : place ≤ n
  pub power : b ≡ 2 ^ place
  pub clear : member t place ≡ false
  pub below : (i : ℕ) → i < place → member t i ≡ true

pub low_bit : (n t : ℕ) → t < 2 ^ n → LowBit n t (bit_and (t + 1) (2 ^ suc n - 1 - t))
low_bit zero t h =
    let e : t ≡ 0 = omega arith in
    record {
      place = 0;
      within = omega arith;
      power = ap (λ (x : ℕ). bit_and (x + 1) (2 ^ 1 - 1 - x)) e;
      clear = member-zero t ∙ ap (λ (x : ℕ). eqb (x % 2) 1) e;
      below = λ i l. absurd (omega arith);
    }
low_bit (suc n) t h =
    let p : 2 ^ suc n ≡ 2 * 2 ^ n = pow-succ' 2 n in
    let r : 2 ^ suc (suc n) ≡ 2 * 2 ^ suc n = pow-succ' 2 (suc n) in
    let l : t / 2 < 2 ^ n = omega (arith, p) in
    let d : (2 ^ suc (suc n) - 1 - t) / 2 ≡ 2 ^ suc n - 1 - t / 2 = omega (arith, p, r) in
    elim (ℕ_discrete (t % 2) 0) [
      | yes e ↦
          let a : (t + 1) / 2 ≡ t / 2 = omega arith in
          let z : bit_and ((t + 1) / 2) ((2 ^ suc (suc n) - 1 - t) / 2) ≡ 0 =
          ap₂ bit_and a d ∙ complement (suc n) (t / 2) (omega (arith, p)) in
          let m : (2 ^ suc (suc n) - 1 - t) % 2 ≡ 1 = omega (arith, p, r) in
          record {
            place = 0;
            within = omega arith;
            power = omega (arith, and_step (t + 1) (2 ^ suc (suc n) - 1 - t), z, m);
            clear = member-zero t ∙ ap (λ (x : ℕ). eqb x 1) e;
            below = λ i l. absurd (omega arith);
          }
      | no e ↦
          let o : t % 2 ≡ 1 = omega arith in
          let a : (t + 1) / 2 ≡ t / 2 + 1 = omega arith in
          let I : LowBit n (t / 2) (bit_and (t / 2 + 1) (2 ^ suc n - 1 - t / 2)) = low_bit n (t / 2) l in
          let z : bit_and ((t + 1) / 2) ((2 ^ suc (suc n) - 1 - t) / 2) ≡ 2 ^ I.place = ap₂ bit_and a d ∙ I.power in
          let m : (2 ^ suc (suc n) - 1 - t) % 2 ≡ 0 = omega (arith, p, r) in
          record {
            place = suc I.place;
            within = omega (arith, I.within);
            power = omega (arith, and_step (t + 1) (2 ^ suc (suc n) - 1 - t), z, m, pow-succ' 2 I.place);
            clear = member-suc t I.place ∙ I.clear;
            below = λ i l. lower t o I.place I.below i l;
          }
    ]
  where
    lower : (t : ℕ) → t % 2 ≡ 1 → (k : ℕ) → ((i : ℕ) → i < k → member (t / 2) i ≡ true) → (i : ℕ) → i < suc k
        → member t i ≡ true
    lower t o k f zero l = member-zero t ∙ ap (λ (x : ℕ). eqb x 1) o
    lower t o k f (suc i) l = member-suc t i ∙ f i (omega arith)

-- ---- the place of a bit

-- the table of the code
abbrev pub places : List ℕ
places = 0 ∷ 1 ∷ 2 ∷ 5 ∷ 3 ∷ 9 ∷ 6 ∷ 11 ∷ 15 ∷ 4 ∷ 8 ∷ 10 ∷ 14 ∷ 7 ∷ 13 ∷ 12 ∷ []

abbrev found : ℕ → Bool
found x = eqb (get_or places (2 ^ x * 2479 % 65536 / 4096) 0) x

abbrev all : ℕ → Bool
all zero = true
all (suc n) = cond (found n) (all n) false

all-at : (n : ℕ) → all n ≡ true → (x : ℕ) → x < n → found x ≡ true
all-at zero e x h = absurd (omega arith)
all-at (suc n) e x h = go (found n) refl e (λ j l. all-at n j x l)
  where
    go : (b : Bool) → found n ≡ b → cond b (all n) false ≡ true → (all n ≡ true → x < n → found x ≡ true)
        → found x ≡ true
    go true i j ih = elim (ℕ_discrete x n) [
      | yes q ↦ ap found q ∙ i
      | no q ↦ ih j (omega arith)
    ]
    go false i j ih = absurd (true-false (sym j))

pub place_found : (x b : ℕ) → x < 16 → b ≡ 2 ^ x → get_or places (b * 2479 % 65536 / 4096) 0 ≡ x
place_found x b h e =
    ap (λ (y : ℕ). get_or places (y * 2479 % 65536 / 4096) 0) e
    ∙ eqb-true (get_or places (2 ^ x * 2479 % 65536 / 4096) 0) x (all-at 16 refl x h)

-- ---- one more member

module _ (p r : ℕ → Bool) where
  set_same : (n : ℕ) → ((s : ℕ) → s < n → r s ≡ p s) → set_of n r ≡ set_of n p
  unfolding set_of
  set_same zero f = refl
  set_same (suc n) f =
      ap₂ (λ (b : Bool) (x : ℕ). bit b * 2 ^ n + x) (f n (omega arith)) (set_same n (λ s h. f s (omega arith)))

  pub set-add : (n x : ℕ) → x < n → p x ≡ false → r x ≡ true → ((s : ℕ) → (s ≡ x → ⊥) → r s ≡ p s)
      → set_of n r ≡ set_of n p + 2 ^ x
  unfolding set_of
  set-add zero x h e f g = absurd (omega arith)
  set-add (suc n) x h e f g = elim (ℕ_discrete x n) [
    | yes i ↦
        let a : bit (r n) ≡ 1 = ap bit (ap r (sym i) ∙ f) in
        let b : bit (p n) ≡ 0 = ap bit (ap p (sym i) ∙ e) in
        let s : set_of n r ≡ set_of n p = set_same n (λ s l. g s (λ j. omega arith)) in
        rw (a, b, i, s) (omega arith)
    | no i ↦
        let a : r n ≡ p n = g n (λ j. omega arith) in
        rw a (omega (arith, set-add n x (omega arith) e f g))
  ]
