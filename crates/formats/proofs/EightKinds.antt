-- Eight kinds at a time: what the sums over one number say about the trees that wait.
--     all-eight     one computed test over all 256 lists of eight kinds, with 0 to 16 trees waiting before
--     high-clear    the mask's test is that no byte is 128 or more
--     Eight, eight  what after_eight needs of the kinds that it reads
--     after-short, after-all   its two answers
use Prim.Native.Nat.{ℕ, zero, suc, ◌+◌, ◌-◌, ◌*◌, ◌/◌, ◌%◌, ◌^◌, ◌≤◌, ◌<◌}
use mathlib.Core.Path.{◌≡◌, refl, sym, ap, ap₂, ◌∙◌, subst}
use mathlib.Core.Bool.{Bool, true, false, cond, not, ◌&&◌}
use mathlib.Core.List.{List, [], ◌∷◌}
use mathlib.Core.Option.{Option, none, some, some-injective}
use native.Mathlib.Omega.{arith}
use native.Mathlib.Decide.{dec_lt}
use lib.Dec.{ltb, eqb}
use lib.ListN.{get_or}
use lib.Bits.{bit_and, and_zero_r, and_block, and_high}
use borrow.Author.Tests.{lt-ltb, le-ltb, ltb-true, eqb-true, eq-eqb, ne_eqb}
use Rattle.trees.specs.Postorder.{waiting}
use Rattle.trees.proofs.MoveLaws.{none-some}
use Rattle.formats.specs.inner.Eight.{eight_kinds, eight_from, only_kinds, pairs_of, fours_of, sums_of, twice_of, fits, few_of, spare, sufficient}
use Rattle.list_laws.specs.Tests.{all_below}
use Rattle.list_laws.proofs.BoolLaws.{true-false, and_left, and_right}
use Rattle.list_laws.proofs.TestLaws.{all_below-at}

-- ---- masks

-- the same byte n times
abbrev masks : ℕ → ℕ → ℕ
masks m zero = 0
masks m (suc n) = masks m n * 256 + m

-- each of n bytes is below s
abbrev pub clear : ℕ → ℕ → ℕ → Bool
clear s zero y = true
clear s (suc n) y = ltb (y % 256) s && clear s n (y / 256)

sum-zero : (a b : ℕ) → eqb (a * 256 + b) 0 ≡ (eqb b 0 && eqb a 0)
sum-zero zero zero = refl
sum-zero (suc a) zero = ne_eqb (suc a * 256 + 0) 0 (λ e. omega arith) ∙ sym (ne_eqb (suc a) 0 (λ e. omega arith))
sum-zero a (suc b) = ne_eqb (a * 256 + suc b) 0 (λ e. omega arith) ∙ sym (ap (λ (x : Bool). x && eqb a 0) (ne_eqb (suc b) 0 (λ e. omega arith)))

module _ (m s : ℕ) (fit : m < 256) (bits : (r : ℕ) → r < 256 → eqb (bit_and r m) 0 ≡ ltb r s) where
  mask-cut : (n y : ℕ) → bit_and y (masks m n * 256 + m) ≡ bit_and (y / 256) (masks m n) * 256 + bit_and (y % 256) m
  mask-cut n y =
      let cut : y ≡ y / 256 * 256 + y % 256 = omega arith in
      ap (λ (x : ℕ). bit_and x (masks m n * 256 + m)) cut
      ∙ and_block 8 (y / 256) (masks m n) (y % 256) m (omega arith) (omega arith)

  mask-clear : (n y : ℕ) → eqb (bit_and y (masks m n)) 0 ≡ clear s n y
  mask-clear zero y = ap (λ (x : ℕ). eqb x 0) (and_zero_r y)
  mask-clear (suc n) y =
      ap (λ (x : ℕ). eqb x 0) (mask-cut n y)
      ∙ sum-zero (bit_and (y / 256) (masks m n)) (bit_and (y % 256) m)
      ∙ ap₂ (λ (a b : Bool). a && b) (bits (y % 256) (omega arith)) (mask-clear n (y / 256))

high_bit : (r : ℕ) → r < 256 → eqb (bit_and r 128) 0 ≡ ltb r 128
high_bit r h = elim (dec_lt r 128) [
  | yes l ↦ (let z : r / 128 % 2 ≡ 0 = omega arith in
      eq-eqb (bit_and r 128) 0 (and_high r 1 7 ∙ ap (λ (x : ℕ). x * 128) z) ∙ sym (lt-ltb r 128 l))
  | no l ↦ (let z : r / 128 % 2 ≡ 1 = omega arith in
      ne_eqb (bit_and r 128) 0 (λ e. absurd (no_one (sym (and_high r 1 7 ∙ ap (λ (x : ℕ). x * 128) z) ∙ e)))
      ∙ sym (le-ltb r 128 (omega arith)))
]
  where
    no_one : ◌≡◌ {A = ℕ} 128 0 → ⊥
    no_one e = omega (arith, e)

low_bit : (r : ℕ) → r < 256 → eqb (bit_and r 254) 0 ≡ ltb r 2
low_bit r h = elim (dec_lt r 2) [
  | yes l ↦ (let z : r / 2 % 128 ≡ 0 = omega arith in
      eq-eqb (bit_and r 254) 0 (and_high r 7 1 ∙ ap (λ (x : ℕ). x * 2) z) ∙ sym (lt-ltb r 2 l))
  | no l ↦ (let z : r / 2 % 128 ≡ r / 2 = omega arith in
      ne_eqb (bit_and r 254) 0 (λ e. absurd (none-two l (sym (and_high r 7 1 ∙ ap (λ (x : ℕ). x * 2) z) ∙ e)))
      ∙ sym (le-ltb r 2 (omega arith)))
]
  where
    none-two : ¬ (r < 2) → r / 2 * 2 ≡ 0 → ⊥
    none-two l e = omega (arith, e)

high-clear : (y : ℕ) → eqb (bit_and y 9259542123273814144) 0 ≡ clear 128 8 y
high-clear y = mask-clear 128 128 (omega arith) high_bit 8 y

others-clear : (y : ℕ) → only_kinds y ≡ clear 2 8 y
others-clear y = mask-clear 254 2 (omega arith) low_bit 8 y

-- ---- all lists of eight kinds

each : (ℕ → Bool) → Bool
each f = f 0 && f 1

each_at : (f : ℕ → Bool) → each f ≡ true → (k : ℕ) → k < 2 → f k ≡ true
unfolding each
each_at f e zero h = and_left (f 0) (f 1) e
each_at f e (suc zero) h = and_right (f 0) (f 1) e
each_at f e (suc (suc k)) h = absurd (omega arith)

below : ℕ → (ℕ → Bool) → Bool
below zero f = true
below (suc n) f = f n && below n f

below_at : (n : ℕ) (f : ℕ → Bool) → below n f ≡ true → (t : ℕ) → t < n → f t ≡ true
unfolding below
below_at zero f e t h = absurd (omega arith)
below_at (suc n) f e t h = elim (dec_lt t n) [
  | yes l ↦ below_at n f (and_right (f n) (below n f) e) t l
  | no l ↦ (let s : n ≡ t = omega arith in subst (λ (m : ℕ). f m ≡ true) s (and_left (f n) (below n f) e))
]

-- whether a test and twice the inner nodes give what waits after eight kinds, where t waited before
pub tells : Option ℕ → Bool → ℕ → ℕ → Bool
tells none clear p t = not clear
tells (some v) clear p t = clear && eqb (v + p) (t + 8) && ltb 0 v

pub enough : Option ℕ → Bool
enough none = false
enough (some v) = true

right_at : List ℕ → ℕ → Bool
right_at ks x = below 17 (λ t. tells (waiting ks t) (clear 128 8 (spare x t)) (x / 2 ^ 56) t) && enough (waiting ks 16)

right : (a b c d e f g h : ℕ) → Bool
right a b c d e f g h =
    let w = a + 256 * b + 65536 * c + 16777216 * d + 4294967296 * e + 1099511627776 * f + 281474976710656 * g + 72057594037927936 * h in
    fits (2 * w) && right_at (a ∷ b ∷ c ∷ d ∷ e ∷ f ∷ g ∷ h ∷ []) (twice_of w)

abbrev right-seven : (a b c d e f g : ℕ) → Bool
right-seven a b c d e f g = each (λ h. right a b c d e f g h)

abbrev right-six : (a b c d e f : ℕ) → Bool
right-six a b c d e f = each (λ g. right-seven a b c d e f g)

abbrev right-five : (a b c d e : ℕ) → Bool
right-five a b c d e = each (λ f. right-six a b c d e f)

abbrev right-four : (a b c d : ℕ) → Bool
right-four a b c d = each (λ e. right-five a b c d e)

abbrev right-three : (a b c : ℕ) → Bool
right-three a b c = each (λ d. right-four a b c d)

abbrev right-two : (a b : ℕ) → Bool
right-two a b = each (λ c. right-three a b c)

abbrev right-one : ℕ → Bool
right-one a = each (λ b. right-two a b)

all-eight : each (λ a. right-one a) ≡ true
unfolding each right fits right_at below tells enough
all-eight = refl

pub record Eight (ks : List ℕ) (w : ℕ) : Type 0 where
  pub fit : fits (2 * w) ≡ true
  pub told : (t : ℕ) → t < 17 → tells (waiting ks t) (clear 128 8 (spare (twice_of w) t)) (twice_of w / 2 ^ 56) t ≡ true
  pub sixteen : enough (waiting ks 16) ≡ true

pub eight : (l : List ℕ) (at : ℕ) → all_below 2 (eight_from l at) ≡ true → Eight (eight_from l at) (eight_kinds l at)
unfolding right right_at
eight l at k =
    let below_two : (j : ℕ) → j < 8 → get_or (eight_from l at) j 0 < 2 = (λ j i. all_below-at 2 (eight_from l at) j k i) in
    let a = get_or l at 0 in
    let b = get_or l (at + 1) 0 in
    let c = get_or l (at + 2) 0 in
    let d = get_or l (at + 3) 0 in
    let e = get_or l (at + 4) 0 in
    let f = get_or l (at + 5) 0 in
    let g = get_or l (at + 6) 0 in
    let h = get_or l (at + 7) 0 in
    let one = each_at right-one all-eight a (below_two 0 (omega arith)) in
    let two = each_at (right-two a) one b (below_two 1 (omega arith)) in
    let three = each_at (right-three a b) two c (below_two 2 (omega arith)) in
    let four = each_at (right-four a b c) three d (below_two 3 (omega arith)) in
    let five = each_at (right-five a b c d) four e (below_two 4 (omega arith)) in
    let six = each_at (right-six a b c d e) five f (below_two 5 (omega arith)) in
    let seven = each_at (right-seven a b c d e f) six g (below_two 6 (omega arith)) in
    let all : right a b c d e f g h ≡ true = each_at (right a b c d e f g) seven h (below_two 7 (omega arith)) in
    let tests = below 17 (λ t. tells (waiting (eight_from l at) t) (clear 128 8 (spare (twice_of (eight_kinds l at)) t))
    (twice_of (eight_kinds l at) / 2 ^ 56) t) in
    let after : (tests && enough (waiting (eight_from l at) 16)) ≡ true =
    and_right (fits (2 * eight_kinds l at)) (tests && enough (waiting (eight_from l at) 16)) all in
    record {
      fit = and_left (fits (2 * eight_kinds l at)) (tests && enough (waiting (eight_from l at) 16)) all;
      told = λ t i. below_at 17 (λ t. tells (waiting (eight_from l at) t) (clear 128 8 (spare (twice_of (eight_kinds l at)) t))
          (twice_of (eight_kinds l at) / 2 ^ 56) t) (and_left tests (enough (waiting (eight_from l at) 16)) after) t i;
      sixteen = and_right tests (enough (waiting (eight_from l at) 16)) after;
    }

-- ---- the sums fit

module _ (w : ℕ) (e : fits w ≡ true) where
  pub fits-pairs : pairs_of w < 18446744073709551616
  unfolding fits
  fits-pairs = ltb-true (pairs_of w) 18446744073709551616 (and_left (ltb (pairs_of w) 18446744073709551616) (ltb (fours_of w) 18446744073709551616)
      (and_left (ltb (pairs_of w) 18446744073709551616 && ltb (fours_of w) 18446744073709551616) (ltb (sums_of w) 2000000000000000000) e))

  pub fits-fours : fours_of w < 18446744073709551616
  unfolding fits
  fits-fours = ltb-true (fours_of w) 18446744073709551616 (and_right (ltb (pairs_of w) 18446744073709551616) (ltb (fours_of w) 18446744073709551616)
      (and_left (ltb (pairs_of w) 18446744073709551616 && ltb (fours_of w) 18446744073709551616) (ltb (sums_of w) 2000000000000000000) e))

  pub fits-sums : sums_of w < 2000000000000000000
  unfolding fits
  fits-sums = ltb-true (sums_of w) 2000000000000000000
      (and_right (ltb (pairs_of w) 18446744073709551616 && ltb (fours_of w) 18446744073709551616) (ltb (sums_of w) 2000000000000000000) e)

pub few-most : (t : ℕ) → few_of t ≤ 16
few-most t = elim (dec_lt t 16) [
  | yes l ↦ rw (lt-ltb t 16 l) (omega arith)
  | no l ↦ rw (le-ltb t 16 (omega arith)) (omega arith)
]

-- ---- the two answers

-- d trees more wait before, and d more after
shift : (ks : List ℕ) (w v d : ℕ) → waiting ks w ≡ some v → waiting ks (w + d) ≡ some (v + d)
shift [] w v d e = ap (λ (x : ℕ). some (x + d)) (some-injective w v e)
shift (zero ∷ ks) w v d e =
    let s : suc (w + d) ≡ suc w + d = omega arith in
    ap (waiting ks) s ∙ shift ks (suc w) v d e
shift (suc zero ∷ ks) zero v d e = absurd (none-some e)
shift (suc zero ∷ ks) (suc zero) v d e = absurd (none-some e)
shift (suc zero ∷ ks) (suc (suc w)) v d e =
    let s : suc (suc w) + d ≡ suc (suc (w + d)) = omega arith in
    let r : suc (w + d) ≡ suc w + d = omega arith in
    ap (waiting (1 ∷ ks)) s ∙ ap (waiting ks) r ∙ shift ks (suc w) v d e
shift (suc (suc k) ∷ ks) w v d e = absurd (none-some e)

-- what waits, and what the test says
pub data Waits (ks : List ℕ) (t p : ℕ) (c : Bool) : Type 0 where
  short : waiting ks t ≡ none → c ≡ false → Waits ks t p c
  more : (v : ℕ) → waiting ks t ≡ some v → c ≡ true → v + p ≡ t + 8 → 0 < v → Waits ks t p c

of-tells : (ks : List ℕ) (t p : ℕ) (c : Bool) (o : Option ℕ) → waiting ks t ≡ o → tells o c p t ≡ true → Waits ks t p c
unfolding tells
of-tells ks t p false none q e = short q refl
of-tells ks t p true none q e = absurd (true-false (sym e))
of-tells ks t p false (some v) q e = absurd (true-false (sym e))
of-tells ks t p true (some v) q e = more v q refl
    (eqb-true (v + p) (t + 8) (and_left (eqb (v + p) (t + 8)) (ltb 0 v) e))
    (ltb-true 0 v (and_right (eqb (v + p) (t + 8)) (ltb 0 v) e))

module _ (ks : List ℕ) (w : ℕ) (E : Eight ks w) where
  small : (t : ℕ) → t < 17 → Waits ks t (twice_of w / 2 ^ 56) (clear 128 8 (spare (twice_of w) t))
  small t h = of-tells ks t (twice_of w / 2 ^ 56) (clear 128 8 (spare (twice_of w) t)) (waiting ks t) refl (E.told t h)

  -- where 16 wait, eight kinds of any sort can follow
  large : (d : ℕ) → Waits ks 16 (twice_of w / 2 ^ 56) (clear 128 8 (spare (twice_of w) 16))
      → Waits ks (16 + d) (twice_of w / 2 ^ 56) (clear 128 8 (spare (twice_of w) 16))
  unfolding enough
  large d (short q c) = absurd (true-false (sym E.sixteen ∙ ap enough q))
  large d (more v q c s h) = more (v + d) (shift ks 16 v d q) c (omega (arith, s)) (omega (arith, h))

  pub eight-waits : (t f : ℕ) → (t < 16 → f ≡ t) → (16 ≤ t → f ≡ 16)
      → Waits ks t (twice_of w / 2 ^ 56) (clear 128 8 (spare (twice_of w) f))
  eight-waits t f a b = elim (dec_lt t 16) [
    | yes l ↦ subst (λ (g : ℕ). Waits ks t (twice_of w / 2 ^ 56) (clear 128 8 (spare (twice_of w) g))) (sym (a l)) (small t (omega arith))
    | no l ↦ (let g : f ≡ 16 = b (omega arith) in
        let s : 16 + (t - 16) ≡ t = omega arith in
        subst (λ (g : ℕ). Waits ks t (twice_of w / 2 ^ 56) (clear 128 8 (spare (twice_of w) g))) (sym g)
        (subst (λ (u : ℕ). Waits ks u (twice_of w / 2 ^ 56) (clear 128 8 (spare (twice_of w) 16))) s
        (large (t - 16) (small 16 (omega arith)))))
  ]

  eight-few : (t : ℕ) → Waits ks t (twice_of w / 2 ^ 56) (clear 128 8 (spare (twice_of w) (few_of t)))
  eight-few t = eight-waits t (few_of t) (λ l. ap (λ (b : Bool). cond b t 16) (lt-ltb t 16 l)) (λ l. ap (λ (b : Bool). cond b t 16) (le-ltb t 16 l))

  pub eight-short : (t : ℕ) → sufficient (twice_of w) t ≡ false → waiting ks t ≡ none
  eight-short t h = go (eight-few t)
    where
      go : Waits ks t (twice_of w / 2 ^ 56) (clear 128 8 (spare (twice_of w) (few_of t))) → waiting ks t ≡ none
      go (short q c) = q
      go (more v q c s i) = absurd (true-false (sym c ∙ sym (high-clear (spare (twice_of w) (few_of t))) ∙ h))

  pub record Enough (t : ℕ) : Type 0 where
    pub room : twice_of w / 2 ^ 56 < t + 8
    pub wait : waiting ks t ≡ some (t + 8 - twice_of w / 2 ^ 56)

  pub eight-enough : (t : ℕ) → sufficient (twice_of w) t ≡ true → Enough t
  eight-enough t h = go (eight-few t)
    where
      go : Waits ks t (twice_of w / 2 ^ 56) (clear 128 8 (spare (twice_of w) (few_of t))) → Enough t
      go (short q c) = absurd (true-false (sym h ∙ high-clear (spare (twice_of w) (few_of t)) ∙ c))
      go (more v q c s i) = (let z : v ≡ t + 8 - twice_of w / 2 ^ 56 = omega (arith, s) in record {
        room = omega (arith, s, i);
        wait = q ∙ ap some z;
      })

-- ---- bytes that are kinds

-- a byte and the rest of a number
byte-first : (s n a r : ℕ) → a < 256 → clear s (suc n) (a + 256 * r) ≡ (ltb a s && clear s n r)
byte-first s n a r h =
    let low : (a + 256 * r) % 256 ≡ a = omega arith in
    let rest : (a + 256 * r) / 256 ≡ r = omega arith in
    ap₂ (λ (x y : ℕ). ltb x s && clear s n y) low rest

pub only_below : (l : List ℕ) (at : ℕ) → ((j : ℕ) → get_or l j 0 < 256) → only_kinds (eight_kinds l at) ≡ all_below 2 (eight_from l at)
unfolding all_below
only_below l at h =
    let a = get_or l at 0 in
    let b = get_or l (at + 1) 0 in
    let c = get_or l (at + 2) 0 in
    let d = get_or l (at + 3) 0 in
    let e = get_or l (at + 4) 0 in
    let f = get_or l (at + 5) 0 in
    let g = get_or l (at + 6) 0 in
    let z = get_or l (at + 7) 0 in
    let r7 = z + 256 * 0 in
    let r6 = g + 256 * r7 in
    let r5 = f + 256 * r6 in
    let r4 = e + 256 * r5 in
    let r3 = d + 256 * r4 in
    let r2 = c + 256 * r3 in
    let r1 = b + 256 * r2 in
    let nested : eight_kinds l at ≡ a + 256 * r1 = omega arith in
    others-clear (eight_kinds l at) ∙ ap (clear 2 8) nested
    ∙ byte-first 2 7 a r1 (h at) ∙ ap (λ (x : Bool). ltb a 2 && x)
    (byte-first 2 6 b r2 (h (at + 1)) ∙ ap (λ (x : Bool). ltb b 2 && x)
    (byte-first 2 5 c r3 (h (at + 2)) ∙ ap (λ (x : Bool). ltb c 2 && x)
    (byte-first 2 4 d r4 (h (at + 3)) ∙ ap (λ (x : Bool). ltb d 2 && x)
    (byte-first 2 3 e r5 (h (at + 4)) ∙ ap (λ (x : Bool). ltb e 2 && x)
    (byte-first 2 2 f r6 (h (at + 5)) ∙ ap (λ (x : Bool). ltb f 2 && x)
    (byte-first 2 1 g r7 (h (at + 6)) ∙ ap (λ (x : Bool). ltb g 2 && x)
    (byte-first 2 0 z 0 (h (at + 7)))))))))
