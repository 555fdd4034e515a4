-- The iterations of the loop that looks for a state in a row.
--     Searched, searched-..     the place of q
use Prim.Native.Nat.{ℕ, suc, ◌+◌, ◌≤◌, ◌<◌}
use mathlib.Core.Path.{◌≡◌, sym, ap, ◌∙◌}
use mathlib.Core.List.{List, ◌∷◌}
use native.Mathlib.Omega.{arith}
use native.Mathlib.Numerals.{add-one}
use lib.ListN.{length, get_or, drop, drop_of_length-le}
use lib.Seq.{drop-cons}
use borrow.Author.Tests.{eq-eqb, ne_eqb}
use Rattle.colours.specs.Colouring.{place_of}

module _ (row : List ℕ) (q : ℕ) where
  -- q is at none of the first i places
  pub record Searched (i : ℕ) : Type 0 where
    pub within : i ≤ length row
    pub rest : place_of q row ≡ i + place_of q (drop i row)

  pub searched-start : Searched 0
  searched-start = record { within = omega arith; rest = omega arith }

  head : (i : ℕ) → i < length row → drop i row ≡ get_or row i 0 ∷ drop (suc i) row
  head i h = drop-cons row i 0 h

  pub searched-next : (i : ℕ) → Searched i → i < length row → (get_or row i 0 ≡ q → ⊥) → Searched (i + 1)
  unfolding place_of
  searched-next i S h n =
      let e : place_of q (drop i row) ≡ suc (place_of q (drop (suc i) row)) =
      ap (place_of q) (head i h) ∙ rw (ne_eqb q (get_or row i 0) (λ z. n (sym z))) in
      record { within = omega arith; rest = rw (add-one i) (omega (arith, S.rest)) }

  pub searched-found : (i : ℕ) → Searched i → i < length row → get_or row i 0 ≡ q → (i ≡ place_of q row) × (i ≤ length row)
  unfolding place_of
  searched-found i S h e =
      let z : place_of q (drop i row) ≡ 0 = ap (place_of q) (head i h) ∙ rw (eq-eqb q (get_or row i 0) (sym e)) in
      (omega (arith, S.rest), omega arith)

  pub searched-past : (i : ℕ) → Searched i → length row ≤ i
      → (length row ≡ place_of q row) × (length row ≤ length row)
  unfolding place_of
  searched-past i S h =
      let z : place_of q (drop i row) ≡ 0 = ap (place_of q) (drop_of_length-le row h) in
      (omega (arith, S.rest, S.within), omega arith)
