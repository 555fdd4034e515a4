-- The iterations of the loop over the colours of a row, as lists.
--     Turns                        the loop's state: the row of the first c colours, what they land on, what is taken
--     turns-start, turns-turn      before the first colour, and after one more
--     bit-own, bit-low             the bit that the next colour takes: its own state's, or the lowest clear one
use Prim.Native.Nat.{ℕ, suc, ◌+◌, ◌-◌, ◌*◌, ◌/◌, ◌%◌, ◌^◌, ◌≤◌, ◌<◌}
use mathlib.Core.Path.{◌≡◌, refl, sym, ap, subst, ◌∙◌}
use mathlib.Core.Bool.{Bool, true, false, cond}
use mathlib.Core.List.{List, [], ◌∷◌, ◌++◌}
use native.Mathlib.Omega.{arith}
use native.Mathlib.Nat.{one-mul, mod-eq_of_lt}
use native.Mathlib.Numerals.{add-one}
use native.Mathlib.Decide.{ℕ_discrete}
use lib.Bits.{bit_and, and_mask}
use lib.Pow.{pow_mono}
use lib.ListN.{length, get_or, take, set, length-set}
use lib.Seq.{length-take-le, take-suc-set, get_or-set_same, get_or-set_other}
use borrow.Author.Tests.{eq-eqb, ne_eqb}
use Rattle.list_laws.specs.Tests.{holds}
use Rattle.colours.specs.Colouring.{lowest_free, takes, recolour, place_of, lands}
use Rattle.colours.specs.StateSets.{member}
use Rattle.colours.proofs.BitLaws.{member-set_of, set_of-below}
use Rattle.colours.proofs.ColouringLaws.{takes-new, takes-held}
use Rattle.colours.proofs.TurnLaws.{recolour-nil, recolour-turn, lands-place}
use Rattle.colour_tables.specs.rows.Turns.{TurnArgs}
use Rattle.colour_tables.proofs.rows.OwnerLaws.{place-stays, Owned, owned-start, owned-next}
use Rattle.colour_tables.proofs.rows.OwnerLaws.{taken, taken_start, taken_next, free-small, low_free}

pub record Turns (successors row landed owners : List ℕ) (t c : ℕ) : Type 0 where
  pub within : c ≤ length successors
  pub long-row : length row ≡ 16
  pub long-lands : length landed ≡ 16
  pub long-owners : length owners ≡ 16
  pub so_far : take c row ≡ recolour (λ q. q) (take c successors)
  pub lands-so : (j : ℕ) → j < c → get_or landed j 0 ≡ lands (λ q. q) successors j
  pub owned : Owned owners (take c row)
  pub bits : t ≡ taken (take c row)

nothing : (xs : List ℕ) → take 0 xs ≡ []
nothing [] = refl
nothing (x ∷ xs) = refl

pub turns-start : (successors row landed owners : List ℕ) → length row ≡ 16 → length landed ≡ 16 → length owners ≡ 16
    → Turns successors row landed owners 0 0
turns-start successors row landed owners l m o = record {
  within = omega arith;
  long-row = l;
  long-lands = m;
  long-owners = o;
  so_far = nothing row ∙ sym (ap (recolour (λ q. q)) (nothing successors) ∙ recolour-nil (λ q. q));
  lands-so = λ j h. absurd (omega arith);
  owned = subst (Owned owners) (sym (nothing row)) (owned-start owners);
  bits = taken_start ∙ ap taken (sym (nothing row));
}

module _ (successors row landed owners : List ℕ) (t c : ℕ) (T : Turns successors row landed owners t c) (A : TurnArgs successors)
    (h : c < length successors) where
  pub first_length : length (take c row) ≡ c
  first_length = length-take-le c row (omega (arith, T.long-row, A.few))

  pub below : t < 65536
  below = rw T.bits (set_of-below 16 (λ s. holds s (take c row)))

  -- a shift and a mask show whether a lower colour has the state led to
  tells : member t (get_or successors c 0) ≡ holds (get_or successors c 0) (take c row)
  tells = ap (λ (x : ℕ). member x (get_or successors c 0)) T.bits
      ∙ member-set_of 16 (λ s. holds s (take c row)) (get_or successors c 0) (A.small c h)

  pub takes-small : takes (take c row) (get_or successors c 0) < 16
  unfolding takes
  takes-small = go (holds (get_or successors c 0) (take c row))
    where
      go : (b : Bool) → cond b (lowest_free (take c row)) (get_or successors c 0) < 16
      go true = free-small (take c row) (omega (arith, first_length, A.few))
      go false = A.small c h

  pub power_small : 2 ^ takes (take c row) (get_or successors c 0) ≤ 65536
  power_small = pow_mono {i = takes (take c row) (get_or successors c 0)} {j = 16} (omega (arith, takes-small))

  pub bit-own : bit_and (t / 2 ^ get_or successors c 0) 1 ≡ 0
      → 1 * 2 ^ get_or successors c 0 % 18446744073709551616 ≡ 2 ^ takes (take c row) (get_or successors c 0)
  unfolding takes member
  bit-own z =
      let e : holds (get_or successors c 0) (take c row) ≡ false =
      sym tells ∙ ne_eqb (t / 2 ^ get_or successors c 0 % 2) 1 (λ i. omega (arith, and_mask (t / 2 ^ get_or successors c 0) 1)) in
      let l : 2 ^ get_or successors c 0 ≤ 65536 = pow_mono {i = get_or successors c 0} {j = 16} (omega (arith, A.small c h)) in
      rw e (ap (λ (x : ℕ). x % 18446744073709551616) (one-mul (2 ^ get_or successors c 0)) ∙ mod-eq_of_lt (omega arith))

  pub bit-low : (bit_and (t / 2 ^ get_or successors c 0) 1 ≡ 0 → ⊥)
      → bit_and (t + 1) (131071 - t) ≡ 2 ^ takes (take c row) (get_or successors c 0)
  unfolding takes member
  bit-low n =
      let e : holds (get_or successors c 0) (take c row) ≡ true =
      sym tells ∙ eq-eqb (t / 2 ^ get_or successors c 0 % 2) 1 (omega (arith, and_mask (t / 2 ^ get_or successors c 0) 1, n)) in
      rw e (ap (λ (x : ℕ). bit_and (x + 1) (131071 - x)) T.bits
      ∙ low_free (take c row) (omega (arith, first_length, A.few)))

  pub turns-turn : (x b : ℕ) → b ≡ 2 ^ takes (take c row) (get_or successors c 0) → x ≡ takes (take c row) (get_or successors c 0)
      → Turns successors (set row c x) (set landed c (get_or (set owners x c) (get_or successors c 0) 0)) (set owners x c) (t + b) (c + 1)
  turns-turn x b d e =
      let k : c + 1 ≡ suc c = add-one c in
      let g : take (c + 1) (set row c x) ≡ take c row ++ (x ∷ []) =
      ap (λ (j : ℕ). take j (set row c x)) k ∙ take-suc-set row c x (omega (arith, T.long-row, A.few)) in
      let new : holds x (take c row) ≡ false =
      ap (λ (y : ℕ). holds y (take c row)) e ∙ takes-new (take c row) (get_or successors c 0) in
      let small : x < 16 = omega (arith, takes-small) in
      let O : Owned (set owners x c) (take c row ++ (x ∷ [])) =
      subst (λ (j : ℕ). Owned (set owners x j) (take c row ++ (x ∷ []))) first_length
      (owned-next owners (take c row) x T.owned (omega (arith, T.long-owners)) new) in
      let y : get_or (set owners x c) (get_or successors c 0) 0 ≡ place_of (get_or successors c 0) (take c row) =
      O (get_or successors c 0) (ap (λ (y : ℕ). holds (get_or successors c 0) (take c row ++ (y ∷ []))) e
      ∙ (takes-held (take c row) (get_or successors c 0)).0)
      ∙ ap (λ (y : ℕ). place_of (get_or successors c 0) (take c row ++ (y ∷ []))) e ∙ place-stays (take c row) (get_or successors c 0) in
      record {
        within = omega arith;
        long-row = length-set row c x ∙ T.long-row;
        long-lands = length-set landed c _ ∙ T.long-lands;
        long-owners = length-set owners x c ∙ T.long-owners;
        so_far = g
            ∙ ap (λ (y : ℕ). take c row ++ (y ∷ [])) e
            ∙ ap (λ (xs : List ℕ). xs ++ (takes xs (get_or successors c 0) ∷ [])) T.so_far
            ∙ sym (ap (λ (j : ℕ). recolour (λ q. q) (take j successors)) k ∙ recolour-turn (λ q. q) successors c h);
        lands-so = λ j b. elim (ℕ_discrete j c) [
          | yes q ↦ rw q (get_or-set_same landed c (get_or (set owners x c) (get_or successors c 0) 0) 0
              (omega (arith, T.long-lands, A.few))
              ∙ y ∙ ap (place_of (get_or successors c 0)) T.so_far ∙ sym (lands-place (λ q. q) successors c h))
          | no q ↦ get_or-set_other landed c j (get_or (set owners x c) (get_or successors c 0) 0) 0 q ∙ T.lands-so j (omega arith)
        ];
        owned = subst (Owned (set owners x c)) (sym g) O;
        bits = ap (λ (y : ℕ). y + b) T.bits
            ∙ ap (λ (y : ℕ). taken (take c row) + y) (d ∙ ap (λ (j : ℕ). 2 ^ j) (sym e))
            ∙ taken_next (take c row) x small new ∙ ap taken (sym g);
      }
