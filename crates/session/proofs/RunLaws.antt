-- One iteration, and the end, of the test of a rising run.
use Prim.Native.Nat.{ℕ, ◌+◌, ◌≤◌, ◌<◌}
use mathlib.Core.Path.{◌≡◌, refl, sym, ap, ◌∙◌}
use mathlib.Core.Bool.{Bool, false, ◌&&◌}
use mathlib.Core.List.{List, [], ◌∷◌}
use native.Mathlib.Omega.{arith}
use native.Mathlib.Numerals.{add-one}
use lib.Dec.{ltb, eqb}
use lib.ListN.{length, get_or, drop, drop_of_length-le}
use lib.Seq.{drop-cons}
use Rattle.list_laws.proofs.BoolLaws.{and_assoc}
use Rattle.session.specs.Records.{rises_to}

-- the elements from index i on: the one there, and those after it
from : (l : List ℕ) (i j : ℕ) → j ≡ i + 1 → i < length l → drop i l ≡ get_or l i 0 ∷ drop j l
from l i j e h = rw (e, add-one) (drop-cons l i 0 h)

module _ (last : ℕ) (l : List ℕ) (i j : ℕ) (e : i ≡ j + 1) where
  pub rises-iteration : (b : Bool) → i < length l
      → (b && ltb (get_or l j 0) (get_or l i 0) && rises_to last (drop i l)) ≡ (b && rises_to last (drop j l))
  unfolding rises_to
  rises-iteration b h =
      and_assoc b (ltb (get_or l j 0) (get_or l i 0)) (rises_to last (drop i l))
      ∙ ap (λ (t : List ℕ). b && (ltb (get_or l j 0) (get_or l i 0) && rises_to last t)) (from l i (i + 1) refl h)
      ∙ sym (ap (λ (t : List ℕ). b && rises_to last t) (from l j i e (omega arith) ∙ ap (λ (t : List ℕ). get_or l j 0 ∷ t) (from l i (i + 1) refl h)))

  pub rises-end : (b : Bool) → i ≤ length l → length l ≤ i → (b && rises_to last (drop j l)) ≡ (b && eqb (get_or l j 0) last)
  unfolding rises_to
  rises-end b g h =
      ap (λ (t : List ℕ). b && rises_to last t)
      (from l j i e (omega arith) ∙ ap (λ (t : List ℕ). get_or l j 0 ∷ t) (drop_of_length-le l h))

pub rises-none : (last : ℕ) (l : List ℕ) → length l ≡ 0 → rises_to last l ≡ false
unfolding rises_to
rises-none last [] e = refl
rises-none last (x ∷ l) e = absurd (omega arith)
