-- The laws of a list of checks: what its first no is, one check at a time and for two lists in a row.
--     first_no-yes, first_no-no       the first check passes, or fails
--     first_no-head, first_no-tail    where nothing fails, the first check passes and nothing of the rest fails
--     Numbered cs                   no check has the number 0, so that 0 says that none fails
--     first_no-append-zero, -suc     the first no of two lists in a row, from that of the first list; -no the same with no number
--     first_no-append-left, -right   where nothing of both fails, nothing of either fails
use Prim.Native.Nat.{ℕ, suc, ◌<◌}
use mathlib.Core.Path.{◌≡◌, refl, sym, ◌∙◌}
use mathlib.Core.Bool.{Bool, true, false, cond}
use mathlib.Core.List.{List, [], ◌∷◌, ◌++◌}
use native.Mathlib.Omega.{arith}
use Rattle.list_laws.proofs.BoolLaws.{true-false}
use Rattle.formats.specs.Checks.{Check, check, first_no}

-- ---- one check

pub first_no-yes : (n : ℕ) (b : Bool) (cs : List Check) → b ≡ true → first_no (check n b ∷ cs) ≡ first_no cs
unfolding first_no
first_no-yes n true cs e = refl
first_no-yes n false cs e = absurd (true-false (sym e))

pub first_no-no : (n : ℕ) (b : Bool) (cs : List Check) → b ≡ false → first_no (check n b ∷ cs) ≡ n
unfolding first_no
first_no-no n true cs e = absurd (true-false e)
first_no-no n false cs e = refl

pub first_no-head : (n : ℕ) (b : Bool) (cs : List Check) → 0 < n → first_no (check n b ∷ cs) ≡ 0 → b ≡ true
unfolding first_no
first_no-head n true cs h e = refl
first_no-head n false cs h e = absurd (omega arith)

pub first_no-tail : (n : ℕ) (b : Bool) (cs : List Check) → 0 < n → first_no (check n b ∷ cs) ≡ 0 → first_no cs ≡ 0
unfolding first_no
first_no-tail n true cs h e = e
first_no-tail n false cs h e = absurd (omega arith)

pub first_no-none : first_no [] ≡ 0
unfolding first_no
first_no-none = refl

-- ---- two lists in a row

abbrev pub Numbered : List Check → Type 0
Numbered [] = Unit {0}
Numbered (c ∷ cs) = (0 < c.number) × Numbered cs

pub first_no-append-zero : (xs ys : List Check) → Numbered xs → first_no xs ≡ 0 → first_no (xs ++ ys) ≡ first_no ys
unfolding first_no
first_no-append-zero [] ys p e = refl
first_no-append-zero (c ∷ xs) ys p e = go c.passes (first_no-append-zero xs ys p.1) e
  where
    go : (b : Bool) → (first_no xs ≡ 0 → first_no (xs ++ ys) ≡ first_no ys)
        → cond b (first_no xs) c.number ≡ 0 → cond b (first_no (xs ++ ys)) c.number ≡ first_no ys
    go true rest f = rest f
    go false rest f = absurd (omega (arith, p.0))

pub first_no-append-no : (xs ys : List Check) → (first_no xs ≡ 0 → ⊥) → first_no (xs ++ ys) ≡ first_no xs
unfolding first_no
first_no-append-no [] ys h = absurd (h refl)
first_no-append-no (c ∷ xs) ys h = go c.passes (first_no-append-no xs ys) h
  where
    go : (b : Bool) → ((first_no xs ≡ 0 → ⊥) → first_no (xs ++ ys) ≡ first_no xs)
        → (cond b (first_no xs) c.number ≡ 0 → ⊥) → cond b (first_no (xs ++ ys)) c.number ≡ cond b (first_no xs) c.number
    go true rest f = rest f
    go false rest f = refl

pub first_no-append-suc : (xs ys : List Check) (n : ℕ) → first_no xs ≡ suc n → first_no (xs ++ ys) ≡ suc n
first_no-append-suc xs ys n e = first_no-append-no xs ys (λ z. omega arith) ∙ e

pub first_no-append-left : (xs ys : List Check) → Numbered xs → first_no (xs ++ ys) ≡ 0 → first_no xs ≡ 0
unfolding first_no
first_no-append-left [] ys p e = refl
first_no-append-left (c ∷ xs) ys p e = go c.passes (first_no-append-left xs ys p.1) e
  where
    go : (b : Bool) → (first_no (xs ++ ys) ≡ 0 → first_no xs ≡ 0)
        → cond b (first_no (xs ++ ys)) c.number ≡ 0 → cond b (first_no xs) c.number ≡ 0
    go true rest f = rest f
    go false rest f = f

pub first_no-append-right : (xs ys : List Check) → Numbered xs → first_no (xs ++ ys) ≡ 0 → first_no ys ≡ 0
first_no-append-right xs ys p e = sym (first_no-append-zero xs ys p (first_no-append-left xs ys p e)) ∙ e

pub numbered-append : (xs ys : List Check) → Numbered xs → Numbered ys → Numbered (xs ++ ys)
numbered-append [] ys p q = q
numbered-append (c ∷ xs) ys p q = (p.0, numbered-append xs ys p.1 q)
