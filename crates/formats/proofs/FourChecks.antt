-- The laws of four checks in a row, and of three.
--     four-pass, pass-four        where no number is given all four pass, and back
--     four-1 .. four-4            the first no of four
--     three-pass, pass-three, three-1 .. three-3    the same of three
use Prim.Native.Nat.{ℕ, suc}
use mathlib.Core.Path.{◌≡◌, refl}
use mathlib.Core.Bool.{Bool, true, false}
use mathlib.Core.List.{List, [], ◌∷◌}
use native.Mathlib.Omega.{arith}
use Rattle.formats.specs.Checks.{Check, check, first_no}

-- ---- four checks in a row, with numbers above 0

abbrev pub four : ℕ → ℕ → ℕ → ℕ → Bool → Bool → Bool → Bool → List Check
four k l m n a b c d = check (suc k) a ∷ check (suc l) b ∷ check (suc m) c ∷ check (suc n) d ∷ []

pub four-pass : (k l m n : ℕ) (a b c d : Bool) → first_no (four k l m n a b c d) ≡ 0
    → (a ≡ true) × (b ≡ true) × (c ≡ true) × (d ≡ true)
unfolding first_no
four-pass k l m n true true true true e = (refl, refl, refl, refl)
four-pass k l m n true true true false e = absurd (omega arith)
four-pass k l m n true true false d e = absurd (omega arith)
four-pass k l m n true false c d e = absurd (omega arith)
four-pass k l m n false b c d e = absurd (omega arith)

module _ (k l m n : ℕ) (a b c d : Bool) where
  pub pass-four : a ≡ true → b ≡ true → c ≡ true → d ≡ true → first_no (four k l m n a b c d) ≡ 0
  unfolding first_no
  pass-four e f g h = rw (e, f, g, h)

  pub four-1 : a ≡ false → first_no (four k l m n a b c d) ≡ suc k
  unfolding first_no
  four-1 e = rw e

  pub four-2 : a ≡ true → b ≡ false → first_no (four k l m n a b c d) ≡ suc l
  unfolding first_no
  four-2 e f = rw (e, f)

  pub four-3 : a ≡ true → b ≡ true → c ≡ false → first_no (four k l m n a b c d) ≡ suc m
  unfolding first_no
  four-3 e f g = rw (e, f, g)

  pub four-4 : a ≡ true → b ≡ true → c ≡ true → d ≡ false → first_no (four k l m n a b c d) ≡ suc n
  unfolding first_no
  four-4 e f g h = rw (e, f, g, h)

-- ---- three checks in a row, with numbers above 0

abbrev pub three : ℕ → ℕ → ℕ → Bool → Bool → Bool → List Check
three k l m a b c = check (suc k) a ∷ check (suc l) b ∷ check (suc m) c ∷ []

pub three-pass : (k l m : ℕ) (a b c : Bool) → first_no (three k l m a b c) ≡ 0 → (a ≡ true) × (b ≡ true) × (c ≡ true)
unfolding first_no
three-pass k l m true true true e = (refl, refl, refl)
three-pass k l m true true false e = absurd (omega arith)
three-pass k l m true false c e = absurd (omega arith)
three-pass k l m false b c e = absurd (omega arith)

module _ (k l m : ℕ) (a b c : Bool) where
  pub pass-three : a ≡ true → b ≡ true → c ≡ true → first_no (three k l m a b c) ≡ 0
  unfolding first_no
  pass-three e f g = rw (e, f, g)

  pub three-1 : a ≡ false → first_no (three k l m a b c) ≡ suc k
  unfolding first_no
  three-1 e = rw e

  pub three-2 : a ≡ true → b ≡ false → first_no (three k l m a b c) ≡ suc l
  unfolding first_no
  three-2 e f = rw (e, f)

  pub three-3 : a ≡ true → b ≡ true → c ≡ false → first_no (three k l m a b c) ≡ suc m
  unfolding first_no
  three-3 e f g = rw (e, f, g)
