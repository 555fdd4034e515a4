-- The laws of sets of states as numbers.
--     set_of-below     n states give a number below 2 ^ n
--     set_of-ext       tests that agree below n give the same set
--     member-set_of    the members are those that pass the test
--     member-single   2 ^ x is the set of x alone
use Prim.Native.Nat.{ℕ, zero, suc, ◌+◌, ◌*◌, ◌/◌, ◌%◌, ◌^◌, ◌≤◌, ◌<◌}
use mathlib.Core.Path.{◌≡◌, refl, sym, ap, ap₂, ◌∙◌}
use mathlib.Core.Bool.{Bool, true, false}
use native.Mathlib.Omega.{arith}
use native.Mathlib.Nat.{div-one, zero-div, pow-succ'}
use lib.Dec.{eqb}
use lib.Pow.{shr-shr}
use borrow.Author.Tests.{ne_eqb}
use Rattle.state_sets.specs.StateSets.{bit, set_of, member}

pub bit_le : (b : Bool) → bit b ≤ 1
bit_le true = omega arith
bit_le false = omega arith

-- ---- a set's first member and the rest

pub member-zero : (T : ℕ) → member T 0 ≡ eqb (T % 2) 1
unfolding member
member-zero T = ap (λ (x : ℕ). eqb (x % 2) 1) (div-one T)

pub member-suc : (T k : ℕ) → member T (suc k) ≡ member (T / 2) k
unfolding member
member-suc T k =
    let e : suc k ≡ 1 + k = omega arith in
    ap (λ (j : ℕ). eqb (T / 2 ^ j % 2) 1) e ∙ ap (λ (x : ℕ). eqb (x % 2) 1) (sym (shr-shr T 1 k))

bit_test : (b : Bool) → eqb (bit b) 1 ≡ b
bit_test true = refl
bit_test false = refl

pub set_of-below : (n : ℕ) (p : ℕ → Bool) → set_of n p < 2 ^ n
unfolding set_of
set_of-below zero p = omega arith
set_of-below (suc n) p = go (p n) (set_of-below n p)
  where
    go : (b : Bool) → set_of n p < 2 ^ n → bit b * 2 ^ n + set_of n p < 2 ^ suc n
    go true h = omega (arith, pow-succ' 2 n)
    go false h = omega (arith, pow-succ' 2 n)

pub set_of-ext : (n : ℕ) (p q : ℕ → Bool) → ((i : ℕ) → i < n → p i ≡ q i) → set_of n p ≡ set_of n q
unfolding set_of
set_of-ext zero p q e = refl
set_of-ext (suc n) p q e =
    ap₂ (λ (b : Bool) (x : ℕ). bit b * 2 ^ n + x) (e n (omega arith)) (set_of-ext n p q (λ i h. e i (omega arith)))

-- the same sum from the other end
set_of-first : (n : ℕ) (p : ℕ → Bool) → set_of (suc n) p ≡ bit (p 0) + 2 * set_of n (λ k. p (suc k))
unfolding set_of
set_of-first zero p = omega arith
set_of-first (suc n) p = go (p (suc n)) (set_of-first n p)
  where
    go : (b : Bool) → bit (p n) * 2 ^ n + set_of n p ≡ bit (p 0) + 2 * set_of n (λ k. p (suc k))
        → bit b * 2 ^ suc n + (bit (p n) * 2 ^ n + set_of n p)
        ≡ bit (p 0) + 2 * (bit b * 2 ^ n + set_of n (λ k. p (suc k)))
    go true h = omega (arith, pow-succ' 2 n)
    go false h = omega (arith, pow-succ' 2 n)

pub member-set_of : (n : ℕ) (p : ℕ → Bool) (k : ℕ) → k < n → member (set_of n p) k ≡ p k
member-set_of zero p k h = absurd (omega arith)
member-set_of (suc n) p zero h =
    let e : set_of (suc n) p % 2 ≡ bit (p 0) = omega (arith, set_of-first n p, bit_le (p 0)) in
    member-zero (set_of (suc n) p) ∙ ap (λ (x : ℕ). eqb x 1) e ∙ bit_test (p 0)
member-set_of (suc n) p (suc k) h =
    let e : set_of (suc n) p / 2 ≡ set_of n (λ k. p (suc k)) = omega (arith, set_of-first n p, bit_le (p 0)) in
    member-suc (set_of (suc n) p) k ∙ ap (λ (x : ℕ). member x k) e ∙ member-set_of n (λ k. p (suc k)) k (omega arith)

-- ---- sets of one

member-none : (k : ℕ) → member 0 k ≡ false
unfolding member
member-none k = ap (λ (x : ℕ). eqb (x % 2) 1) (zero-div (2 ^ k))

pub member-single : (x k : ℕ) → member (2 ^ x) k ≡ eqb k x
member-single zero zero = member-zero 1
member-single zero (suc k) = member-suc 1 k ∙ member-none k ∙ sym (ne_eqb (suc k) 0 (λ e. omega arith))
member-single (suc x) zero =
    let e : 2 ^ suc x % 2 ≡ 0 = omega (arith, pow-succ' 2 x) in
    member-zero (2 ^ suc x) ∙ ap (λ (y : ℕ). eqb y 1) e ∙ sym (ne_eqb 0 (suc x) (λ e. omega arith))
member-single (suc x) (suc k) =
    let e : 2 ^ suc x / 2 ≡ 2 ^ x = omega (arith, pow-succ' 2 x) in
    member-suc (2 ^ suc x) k ∙ ap (λ (y : ℕ). member y k) e ∙ member-single x k ∙ sym (eqb-suc k x)
  where
    eqb-suc : (a b : ℕ) → eqb (suc a) (suc b) ≡ eqb a b
    eqb-suc a b = lib.Dec.eqb-suc-suc a b
