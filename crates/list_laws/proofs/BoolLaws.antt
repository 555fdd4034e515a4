-- The laws of conjunctions and disjunctions of tests.
--     true-false                     a test has one answer
--     and_both, and_left, and_right  what a conjunction says of its halves, and back; and-no-left, and-no-right where one is false
--     and-next                       a test that passes leaves the next to decide
--     and_assoc, and_yes             a conjunction regrouped, and with true; or_assoc, or_no for a disjunction
--     or_cases, or-first, or-second  what a disjunction says, and back
use Prim.Native.Nat.{ℕ}
use mathlib.Core.Path.{◌≡◌, refl, sym}
use mathlib.Core.Bool.{Bool, true, false, ◌&&◌, ◌||◌}
use mathlib.Core.Logic.{◌⊎◌, inl, inr}
use native.Mathlib.Omega.{arith}

pub true-false : true ≡ false → ⊥
true-false e = let z : ◌≡◌ {A = ℕ} 0 1 = cc in omega arith

pub and_both : (a b : Bool) → a ≡ true → b ≡ true → (a && b) ≡ true
and_both true b e f = f
and_both false b e f = e

pub and_left : (a b : Bool) → (a && b) ≡ true → a ≡ true
and_left true b e = refl
and_left false b e = e

pub and_right : (a b : Bool) → (a && b) ≡ true → b ≡ true
and_right true b e = e
and_right false b e = absurd (true-false (sym e))

pub and-no-left : (a b : Bool) → a ≡ false → (a && b) ≡ false
and-no-left true b e = absurd (true-false e)
and-no-left false b e = refl

pub and-no-right : (a b : Bool) → b ≡ false → (a && b) ≡ false
and-no-right true b e = e
and-no-right false b e = refl

pub and-next : (a b : Bool) → a ≡ true → (a && b) ≡ b
and-next a b e = rw e

pub and_assoc : (a b c : Bool) → (a && b && c) ≡ (a && (b && c))
and_assoc true b c = refl
and_assoc false b c = refl

pub or_assoc : (a b c : Bool) → (a || b || c) ≡ (a || (b || c))
or_assoc true b c = refl
or_assoc false b c = refl

pub and_yes : (a : Bool) → (a && true) ≡ a
and_yes true = refl
and_yes false = refl

pub or_no : (a : Bool) → (a || false) ≡ a
or_no true = refl
or_no false = refl

pub or_cases : (a b : Bool) → (a || b) ≡ true → (a ≡ true) ⊎ (b ≡ true)
or_cases true b e = inl refl
or_cases false b e = inr e

pub or-first : (a b : Bool) → a ≡ true → (a || b) ≡ true
or-first true b e = refl
or-first false b e = absurd (true-false (sym e))

pub or-second : (a b : Bool) → b ≡ true → (a || b) ≡ true
or-second true b e = refl
or-second false b e = e
