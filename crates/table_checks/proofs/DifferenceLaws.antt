-- Differences or-ed into one number: it is 0 exactly where none was.
--     or_left, or_right, or-none     a union is 0 exactly where both parts are
--     xor-zero, xor-none             a difference is 0 exactly where both numbers are the same
--     or-test, xor-test, more_test   the same, as tests; or-more: one test more; or-listed: one test of a list's number more
--     every-none                     no test
--     every-both                     two tests of the same numbers are one
use Prim.Native.Nat.{ℕ, zero, suc, ◌+◌, ◌<◌}
use mathlib.Core.Path.{◌≡◌, refl, sym, ap, ◌∙◌}
use mathlib.Core.Bool.{Bool, true, false, ◌&&◌}
use mathlib.Core.List.{List}
use native.Mathlib.Decide.{ℕ_discrete}
use native.Mathlib.Omega.{arith}
use lib.Dec.{eqb}
use lib.Bits.{bit_or, bit_xor, or_add_and, xor_add_and, and_le_l, and_le_r, xor_self}
use lib.ListN.{length, get_or, take}
use Rattle.std.proofs.lemmas.List.{length-take, get_or-take}
use borrow.Author.Tests.{eq-eqb, ne_eqb}
use Rattle.tables.specs.inner.Compare.{every}
use Rattle.table_checks.proofs.BlockLaws.{every-step}

pub or_left : (a b : ℕ) → bit_or a b ≡ 0 → a ≡ 0
or_left a b e = omega (arith, or_add_and a b, and_le_r a b)

pub or_right : (a b : ℕ) → bit_or a b ≡ 0 → b ≡ 0
or_right a b e = omega (arith, or_add_and a b, and_le_l a b)

pub or-none : (a b : ℕ) → a ≡ 0 → b ≡ 0 → bit_or a b ≡ 0
or-none a b e f = omega (arith, or_add_and a b)

pub xor-zero : (a b : ℕ) → bit_xor a b ≡ 0 → a ≡ b
xor-zero a b e = omega (arith, xor_add_and a b, and_le_l a b, and_le_r a b)

pub xor-none : (a b : ℕ) → a ≡ b → bit_xor a b ≡ 0
xor-none a b e = ap (bit_xor a) (sym e) ∙ xor_self a

pub or-test : (a b : ℕ) → eqb (bit_or a b) 0 ≡ (eqb a 0 && eqb b 0)
or-test a b = elim (ℕ_discrete a 0) [
  | yes e ↦ elim (ℕ_discrete b 0) [
    | yes f ↦ rw (eq-eqb a 0 e, eq-eqb b 0 f) (eq-eqb (bit_or a b) 0 (or-none a b e f))
    | no f ↦ rw (eq-eqb a 0 e, ne_eqb b 0 f) (ne_eqb (bit_or a b) 0 (λ z. f (or_right a b z)))
  ]
  | no e ↦ rw (ne_eqb a 0 e) (ne_eqb (bit_or a b) 0 (λ z. e (or_left a b z)))
]

pub xor-test : (a b : ℕ) → eqb (bit_xor a b) 0 ≡ eqb a b
xor-test a b = elim (ℕ_discrete a b) [
  | yes e ↦ eq-eqb (bit_xor a b) 0 (xor-none a b e) ∙ sym (eq-eqb a b e)
  | no e ↦ ne_eqb (bit_xor a b) 0 (λ z. e (xor-zero a b z)) ∙ sym (ne_eqb a b e)
]

-- one difference more
pub more_test : (x n : ℕ) (f g : ℕ → ℕ) → eqb x 0 ≡ every n (λ q. eqb (f q) (g q))
    → eqb (bit_or x (bit_xor (f n) (g n))) 0 ≡ every (n + 1) (λ q. eqb (f q) (g q))
more_test x n f g e =
    or-test x (bit_xor (f n) (g n)) ∙ ap (λ (b : Bool). b && eqb (bit_xor (f n) (g n)) 0) e
    ∙ ap (λ (b : Bool). every n (λ q. eqb (f q) (g q)) && b) (xor-test (f n) (g n))
    ∙ sym (every-step n (λ q. eqb (f q) (g q)))

-- one number more, 0 exactly where f holds
pub or-more : (n : ℕ) (f : ℕ → Bool) (bad t : ℕ) → eqb bad 0 ≡ every n f → eqb t 0 ≡ f n
    → eqb (bit_or bad t) 0 ≡ every (n + 1) f
or-more n f bad t e h =
    or-test bad t ∙ ap (λ (x : Bool). x && eqb t 0) e ∙ ap (λ (x : Bool). every n f && x) h ∙ sym (every-step n f)

-- one number of a list's first c more
pub or-listed : (f : ℕ → Bool) (l : List ℕ) (c n bad t : ℕ) → n < length (take c l)
    → eqb bad 0 ≡ every n (λ i. f (get_or l i 0)) → eqb t 0 ≡ f (get_or (take c l) n 0)
    → eqb (bit_or bad t) 0 ≡ every (n + 1) (λ i. f (get_or l i 0))
or-listed f l c n bad t h e d =
    let k : n < c = omega (arith, length-take c l) in
    or-more n (λ i. f (get_or l i 0)) bad t e (d ∙ ap f (get_or-take c l n 0 k))

-- no number
pub every-none : (f : ℕ → Bool) → true ≡ every 0 f
unfolding every
every-none f = refl

exchange : (a l b t : Bool) → ((a && l) && (b && t)) ≡ ((a && b) && (l && t))
exchange true l true t = refl
exchange true true false t = refl
exchange true false false t = refl
exchange false l b t = refl

-- two tests of the same numbers
pub every-both : (n : ℕ) (f g : ℕ → Bool) → (every n f && every n g) ≡ every n (λ i. f i && g i)
unfolding every
every-both zero f g = refl
every-both (suc n) f g =
    exchange (every n f) (f n) (every n g) (g n) ∙ ap (λ (x : Bool). x && (f n && g n)) (every-both n f g)
