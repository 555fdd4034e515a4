-- One iteration, and the end, of the loops over lists: what is known of the elements passed and of those still to come.
--     below-iteration, below_end       all_below with a running answer
--     holds-iteration, holds-end       holds with a running answer
--     distinct-no, distinct-yes, distinct-end
--                                 distinct from an index on
use Prim.Native.Nat.{ℕ, ◌+◌, ◌-◌, ◌≤◌, ◌<◌}
use mathlib.Core.Path.{◌≡◌, refl, sym, ap, ◌∙◌}
use mathlib.Core.Bool.{Bool, true, false, not, ◌&&◌, ◌||◌}
use mathlib.Core.List.{List, ◌∷◌}
use native.Mathlib.Numerals.{add-one}
use lib.Dec.{ltb, eqb}
use lib.ListN.{length, get_or, take, drop, drop_of_length-le}
use lib.Seq.{drop-cons}
use Rattle.list_laws.specs.Tests.{all_below, holds, distinct}
use Rattle.list_laws.proofs.BoolLaws.{and_assoc, or_assoc, and_yes, or_no}
use Rattle.list_laws.proofs.SliceLaws.{rest_part}

-- the elements from index i on: the one there, and those after it
from : (l : List ℕ) (i : ℕ) → i < length l → drop i l ≡ get_or l i 0 ∷ drop (i + 1) l
from l i h = rw add-one (drop-cons l i 0 h)

module _ (l : List ℕ) (i : ℕ) where
  pub below-iteration : (n : ℕ) (b : Bool) → i < length l → (b && ltb (get_or l i 0) n && all_below n (drop (i + 1) l)) ≡ (b && all_below n (drop i l))
  unfolding all_below
  below-iteration n b h =
      and_assoc b (ltb (get_or l i 0) n) (all_below n (drop (i + 1) l)) ∙ sym (ap (λ (t : List ℕ). b && all_below n t) (from l i h))

  pub below_end : (n : ℕ) (b : Bool) → length l ≤ i → (b && all_below n (drop i l)) ≡ b
  unfolding all_below
  below_end n b h = ap (λ (t : List ℕ). b && all_below n t) (drop_of_length-le l h) ∙ and_yes b

  pub holds-iteration : (x : ℕ) (b : Bool) → i < length l → (b || eqb x (get_or l i 0) || holds x (drop (i + 1) l)) ≡ (b || holds x (drop i l))
  unfolding holds
  holds-iteration x b h =
      or_assoc b (eqb x (get_or l i 0)) (holds x (drop (i + 1) l)) ∙ sym (ap (λ (t : List ℕ). b || holds x t) (from l i h))

  pub holds-end : (x : ℕ) (b : Bool) → length l ≤ i → (b || holds x (drop i l)) ≡ b
  unfolding holds
  holds-end x b h = ap (λ (t : List ℕ). b || holds x t) (drop_of_length-le l h) ∙ or_no b

  distinct-iteration : i < length l → distinct (drop i l) ≡ (not (holds (get_or l i 0) (drop (i + 1) l)) && distinct (drop (i + 1) l))
  unfolding distinct
  distinct-iteration h = ap distinct (from l i h)

  pub distinct-end : length l ≤ i → distinct (drop i l) ≡ true
  unfolding distinct
  distinct-end h = ap distinct (drop_of_length-le l h)

  -- from the answer of the test on the rest that is handed on
  pub distinct-no : i < length l → (x : Bool) → x ≡ holds (get_or l i 0) (take (length l - (i + 1)) (drop (i + 1) l)) → x ≡ true
      → distinct (drop i l) ≡ false
  distinct-no h x e f =
      let held : holds (get_or l i 0) (drop (i + 1) l) ≡ true = ap (holds (get_or l i 0)) (sym (rest_part l (i + 1))) ∙ sym e ∙ f in
      distinct-iteration h ∙ ap (λ (y : Bool). not y && distinct (drop (i + 1) l)) held

  pub distinct-yes : i < length l → (x : Bool) → x ≡ holds (get_or l i 0) (take (length l - (i + 1)) (drop (i + 1) l)) → x ≡ false
      → distinct (drop i l) ≡ distinct (drop (i + 1) l)
  distinct-yes h x e f =
      let held : holds (get_or l i 0) (drop (i + 1) l) ≡ false = ap (holds (get_or l i 0)) (sym (rest_part l (i + 1))) ∙ sym e ∙ f in
      distinct-iteration h ∙ ap (λ (y : Bool). not y && distinct (drop (i + 1) l)) held
