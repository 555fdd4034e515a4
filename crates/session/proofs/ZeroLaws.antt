-- The loops that or all elements of a list: their number is 0 exactly where every element is.
--     zero-iteration, zero-end     one list
--     pairs-iteration, pairs_end   two lists of one length
use Prim.Native.Nat.{ℕ, zero, suc, ◌+◌, ◌≤◌, ◌<◌}
use mathlib.Core.Path.{◌≡◌, refl, sym, ap, ap₂, ◌∙◌}
use mathlib.Core.Bool.{Bool, true, false, ◌&&◌}
use mathlib.Core.List.{List}
use native.Mathlib.Omega.{arith}
use lib.Bits.{bit_or}
use lib.Dec.{ltb, eqb}
use lib.ListN.{length, get_or, drop}
use borrow.Author.Tests.{ne_eqb, le-ltb}
use Rattle.list_laws.specs.Tests.{all_below}
use Rattle.list_laws.proofs.BoolLaws.{and_yes}
use Rattle.list_laws.proofs.LoopLaws.{below-iteration, below_end}
use Rattle.table_checks.proofs.DifferenceLaws.{or-test}

is_zero : (x : ℕ) → eqb x 0 ≡ ltb x 1
is_zero zero = refl
is_zero (suc x) = ne_eqb (suc x) 0 (λ e. omega arith) ∙ sym (le-ltb (suc x) 1 (omega arith))

-- one element more, or-ed
or-more : (a x : ℕ) → eqb (bit_or a x) 0 ≡ (eqb a 0 && ltb x 1)
or-more a x = or-test a x ∙ ap (λ (t : Bool). eqb a 0 && t) (is_zero x)

module _ (l : List ℕ) (i : ℕ) where
  pub zero-iteration : (a : ℕ) → i < length l
      → (eqb (bit_or a (get_or l i 0)) 0 && all_below 1 (drop (i + 1) l)) ≡ (eqb a 0 && all_below 1 (drop i l))
  zero-iteration a h =
      ap (λ (t : Bool). t && all_below 1 (drop (i + 1) l)) (or-more a (get_or l i 0)) ∙ below-iteration l i 1 (eqb a 0) h

  pub zero-end : (a : ℕ) → length l ≤ i → (eqb a 0 && all_below 1 (drop i l)) ≡ eqb a 0
  zero-end a h = below_end l i 1 (eqb a 0) h

-- two tests of each list
paired : (a x y v b : Bool) → (((a && x) && y) && (v && b)) ≡ (a && ((x && v) && (y && b)))
paired false x y v b = refl
paired true false y v b = refl
paired true true false true b = refl
paired true true false false b = refl
paired true true true v b = refl

module _ (l m : List ℕ) (i : ℕ) where
  pub pairs-iteration : (a : ℕ) → i < length l → i < length m
      → (eqb (bit_or (bit_or a (get_or l i 0)) (get_or m i 0)) 0 && (all_below 1 (drop (i + 1) l) && all_below 1 (drop (i + 1) m)))
      ≡ (eqb a 0 && (all_below 1 (drop i l) && all_below 1 (drop i m)))
  pairs-iteration a h k =
      let x = get_or l i 0 in
      let y = get_or m i 0 in
      let e : eqb (bit_or (bit_or a x) y) 0 ≡ ((eqb a 0 && ltb x 1) && ltb y 1) =
      or-more (bit_or a x) y ∙ ap (λ (t : Bool). t && ltb y 1) (or-more a x) in
      ap (λ (t : Bool). t && (all_below 1 (drop (i + 1) l) && all_below 1 (drop (i + 1) m))) e
      ∙ (paired (eqb a 0) (ltb x 1) (ltb y 1) (all_below 1 (drop (i + 1) l)) (all_below 1 (drop (i + 1) m))
      ∙ ap (λ (t : Bool). eqb a 0 && t) (ap₂ ◌&&◌ (below-iteration l i 1 true h) (below-iteration m i 1 true k)))

  pub pairs_end : (a : ℕ) → length l ≤ i → length m ≤ i
      → (eqb a 0 && (all_below 1 (drop i l) && all_below 1 (drop i m))) ≡ eqb a 0
  pairs_end a h k =
      ap (λ (t : Bool). eqb a 0 && t) (ap₂ ◌&&◌ (below_end l i 1 true h) (below_end m i 1 true k)) ∙ and_yes (eqb a 0)
