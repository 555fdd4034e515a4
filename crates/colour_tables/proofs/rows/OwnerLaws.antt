-- The states taken, as bits of a number, and their owners: which colour has each.
--     place-stays                  the place of the state led to, once its colour has taken one
--     Owned, owned-..              the owners, of none taken and of one more
--     taken, taken-..              the bits, of none taken and of one more
--     free-small, low_free         the lowest clear bit is that of the lowest free state
use Prim.Native.Nat.{ℕ, ◌+◌, ◌-◌, ◌^◌, ◌≤◌, ◌<◌}
use mathlib.Core.Path.{◌≡◌, refl, sym, ap, ◌∙◌}
use mathlib.Core.Bool.{Bool, true, false}
use mathlib.Core.List.{List, [], ◌∷◌, ◌++◌}
use native.Mathlib.Omega.{arith}
use native.Mathlib.Decide.{ℕ_discrete}
use lib.Bits.{bit_and}
use lib.ListN.{length, get_or, set}
use lib.Seq.{get_or-set_same, get_or-set_other}
use Rattle.list_laws.specs.Tests.{holds}
use Rattle.list_laws.proofs.BoolLaws.{true-false}
use Rattle.colours.specs.Colouring.{lowest_free, takes, place_of}
use Rattle.colours.proofs.Pigeonhole.{cover, first, holds-here, holds_later, holds-other}
use Rattle.colours.proofs.ColouringLaws.{place-left, place-last, place_none, free-is}
use Rattle.colours.specs.StateSets.{set_of}
use Rattle.colours.proofs.BitLaws.{set_of-below, member-set_of}
use Rattle.colour_tables.proofs.rows.BitLaws.{LowBit, low_bit, set-add}

-- ---- one state more

holds-last : (q : ℕ) (xs : List ℕ) → holds q (xs ++ (q ∷ [])) ≡ true
holds-last q [] = holds-here q []
holds-last q (x ∷ xs) = holds_later q x (xs ++ (q ∷ [])) (holds-last q xs)

pub holds-before : (q y : ℕ) (xs : List ℕ) → (q ≡ y → ⊥) → holds q (xs ++ (y ∷ [])) ≡ holds q xs
holds-before q y [] n = holds-other q y [] n
holds-before q y (x ∷ xs) n =
    first q x
    (λ i. rw i (holds-here x (xs ++ (y ∷ [])) ∙ sym (holds-here x xs)))
    (λ i. holds-other q x (xs ++ (y ∷ [])) i ∙ holds-before q y xs n ∙ sym (holds-other q x xs i))

place-new : (q : ℕ) (xs : List ℕ) → holds q xs ≡ false → place_of q (xs ++ (q ∷ [])) ≡ length xs
place-new q xs e =
    let k : takes xs q ≡ q = unfold takes in rw e in
    ap (λ (y : ℕ). place_of q (xs ++ (y ∷ []))) (sym k) ∙ place-last xs q e

-- the place of the state led to is the same before and after its colour's turn: past all, or where a lower colour is
pub place-stays : (xs : List ℕ) (q : ℕ) → place_of q (xs ++ (takes xs q ∷ [])) ≡ place_of q xs
place-stays xs q = go (holds q xs) refl
  where
    go : (b : Bool) → holds q xs ≡ b → place_of q (xs ++ (takes xs q ∷ [])) ≡ place_of q xs
    go true e = place-left q xs (takes xs q ∷ []) e
    go false e = place-last xs q e ∙ sym (place_none q xs e)

-- ---- the owners

abbrev pub Owned : List ℕ → List ℕ → Type 0
Owned owners xs = (q : ℕ) → holds q xs ≡ true → get_or owners q 0 ≡ place_of q xs

pub owned-start : (owners : List ℕ) → Owned owners []
owned-start owners q h = absurd (true-false (sym (unfold holds in h)))

pub owned-next : (owners xs : List ℕ) (x : ℕ) → Owned owners xs → x < length owners → holds x xs ≡ false
    → Owned (set owners x (length xs)) (xs ++ (x ∷ []))
owned-next owners xs x O h e q t = elim (ℕ_discrete q x) [
  | yes i ↦ rw i (get_or-set_same owners x (length xs) 0 h ∙ sym (place-new x xs e))
  | no i ↦ let b : holds q xs ≡ true = sym (holds-before q x xs i) ∙ t in
      get_or-set_other owners x q (length xs) 0 i ∙ O q b ∙ sym (place-left q xs (x ∷ []) b)
]

-- ---- the states taken, as bits

abbrev pub taken : List ℕ → ℕ
taken xs = set_of 16 (λ s. holds s xs)

pub taken_start : 0 ≡ taken []
taken_start = unfold set_of holds in refl

pub taken_next : (xs : List ℕ) (x : ℕ) → x < 16 → holds x xs ≡ false → taken xs + 2 ^ x ≡ taken (xs ++ (x ∷ []))
taken_next xs x h e =
    sym (set-add (λ s. holds s xs) (λ s. holds s (xs ++ (x ∷ []))) 16 x h e (holds-last x xs)
    (λ s n. holds-before s x xs n))

module _ (xs : List ℕ) (few : length xs < 16) where
  low : LowBit 16 (taken xs) (bit_and (taken xs + 1) (2 ^ 17 - 1 - taken xs))
  low = low_bit 16 (taken xs) (set_of-below 16 (λ s. holds s xs))

  lower : (i : ℕ) → i < low.place → holds i xs ≡ true
  lower i h = sym (member-set_of 16 (λ s. holds s xs) i (omega (arith, low.within))) ∙ low.below i h

  short : low.place ≤ length xs
  short = cover low.place xs lower

  is_free : low.place ≡ lowest_free xs
  is_free =
      free-is xs low.place
      (sym (member-set_of 16 (λ s. holds s xs) low.place (omega (arith, short))) ∙ low.clear) lower

  pub free-small : lowest_free xs < 16
  free-small = omega (arith, short, is_free)

  -- "the lowest state that no lower colour has" is the lowest clear bit
  pub low_free : bit_and (taken xs + 1) (131071 - taken xs) ≡ 2 ^ lowest_free xs
  low_free = low.power ∙ ap (λ (k : ℕ). 2 ^ k) is_free
