-- The states that all labels give over two states, as sets, and a row lowered by such a set.
--     member-with              a set and one state besides
--     image-start, image-next  one label more; fill-next, images-all   one pair of states more
--     LoweredTo                a row lowered by a set, state by state
--     image-cost, image-relaxed      the least over all labels, by the node's own label and the set
--     image-args, images-fit         what the loops need of the sets
use Prim.Native.Nat.{ℕ, ◌+◌, ◌*◌, ◌/◌, ◌%◌, ◌^◌, ◌≤◌, ◌<◌, min, max}
use mathlib.Core.Path.{◌≡◌, refl, sym, ap, ap₂, ◌∙◌}
use mathlib.Core.Bool.{Bool, false, cond, ◌||◌}
use mathlib.Core.List.{List}
use native.Mathlib.Decide.{ℕ_discrete, dec_lt}
use native.Mathlib.Numerals.{add-one}
use native.Mathlib.Nat.{one-mul, mod-eq_of_lt, mod-lt, zero-div, div-lt_iff_lt-mul}
use native.Mathlib.Omega.{arith}
use lib.Arith.{digits_div, digits_mod}
use lib.Bits.{bit_or, or_shr, or_step}
use lib.Dec.{eqb}
use lib.ListN.{length, get_or, set}
use lib.Pow.{pow-lt}
use lib.Seq.{get_or-set_same, get_or-set_other}
use borrow.Author.Tests.{eq-eqb, ne_eqb}
use Rattle.list_laws.proofs.BoolLaws.{true-false}
use Rattle.list_laws.proofs.Choice.{by-eq, by-test}
use Rattle.list_laws.proofs.RowLaws.{stride}
use Rattle.state_sets.specs.StateSets.{member}
use Rattle.state_sets.proofs.SetLaws.{member-single}
use Rattle.fewest.specs.Least.{least_to, no_way_out}
use Rattle.fewest.specs.Relabelling.{stock_of}
use Rattle.fewest.specs.inner.Rows.{label_cost, labels_cost, Relaxed, RowArgs}
use Rattle.fewest.specs.inner.Images.{Image, Images, ImagesArgs, ImageArgs, ImagesFit, ImagesFor}
use Rattle.fewest.specs.inner.down.Search.{any_of}
use Rattle.fewest.proofs.costs.LeastLaws.{least-far, least-le}
use Rattle.fewest.proofs.down.AnyLaws.{any-yes, any-no}
use Rattle.fewest.proofs.rows.RowLaws.{least-ge}
use Rattle.fewest.proofs.Theorems.{every-label}

-- ---- sets

eqb-turn : (x y : ℕ) → eqb x y ≡ eqb y x
eqb-turn x y = elim (ℕ_discrete x y) [
  | yes e ↦ eq-eqb x y e ∙ sym (eq-eqb y x (sym e))
  | no e ↦ ne_eqb x y e ∙ sym (ne_eqb y x (λ z. e (sym z)))
]

either : (u w : ℕ) → u < 2 → w < 2 → eqb (max u w) 1 ≡ (eqb u 1 || eqb w 1)
either u w hu hw = elim (ℕ_discrete u 1) [
  | yes e ↦ eq-eqb (max u w) 1 (omega arith) ∙ sym (ap (λ (b : Bool). b || eqb w 1) (eq-eqb u 1 e))
  | no e ↦ ap (λ (x : ℕ). eqb x 1) (let z : max u w ≡ w = omega arith in z) ∙ sym (ap (λ (b : Bool). b || eqb w 1) (ne_eqb u 1 e))
]

member-or : (x y i : ℕ) → member (bit_or x y) i ≡ (member x i || member y i)
unfolding member
member-or x y i =
    let e : bit_or (x / 2 ^ i) (y / 2 ^ i) % 2 ≡ max (x / 2 ^ i % 2) (y / 2 ^ i % 2) = omega (arith, or_step (x / 2 ^ i) (y / 2 ^ i)) in
    ap (λ (z : ℕ). eqb (z % 2) 1) (or_shr x y i) ∙ ap (λ (z : ℕ). eqb z 1) e
    ∙ either (x / 2 ^ i % 2) (y / 2 ^ i % 2) (omega arith) (omega arith)

pub member-with : (x j : ℕ) → j < 16 → (i : ℕ) → member (bit_or x (1 * 2 ^ j % 65536)) i ≡ (member x i || eqb j i)
member-with x j h i =
    let b : 2 ^ j < 65536 = pow-lt {i = j} {j = 16} h in
    let e : 1 * 2 ^ j % 65536 ≡ 2 ^ j = ap (λ (y : ℕ). y % 65536) (one-mul (2 ^ j)) ∙ mod-eq_of_lt b in
    ap (λ (y : ℕ). member (bit_or x y) i) e ∙ member-or x (2 ^ j) i
    ∙ ap (λ (b : Bool). member x i || b) (member-single j i ∙ eqb-turn i j)

member-none : (i : ℕ) → member 0 i ≡ false
unfolding member
member-none i = ap (λ (x : ℕ). eqb (x % 2) 1) (zero-div (2 ^ i))

-- ---- one label more

-- the states that the first b labels give
abbrev pub ImageTo : List ℕ → ℕ → ℕ → ℕ → ℕ → ℕ → ℕ → Type 0
ImageTo inn s k p q b x = (j : ℕ) → j < s → member x j ≡ any_of b (λ b. eqb (get_or inn ((p * k + b) * s + q) 0) j)

module _ (inn : List ℕ) (s k p q : ℕ) where
  pub image-start : ImageTo inn s k p q 0 0
  unfolding any_of
  image-start j h = member-none j

  pub image-next : (b x y to : ℕ) → ImageTo inn s k p q b x → to ≡ get_or inn ((p * k + b) * s + q) 0
      → ((i : ℕ) → member y i ≡ (member x i || eqb to i)) → ImageTo inn s k p q (b + 1) y
  unfolding any_of
  image-next b x y to L et e j h =
      let n : any_of (b + 1) (λ b. eqb (get_or inn ((p * k + b) * s + q) 0) j)
      ≡ (any_of b (λ b. eqb (get_or inn ((p * k + b) * s + q) 0) j) || eqb (get_or inn ((p * k + b) * s + q) 0) j) = rw (add-one b) in
      e j ∙ ap₂ (λ (u w : Bool). u || w) (L j h) (ap (λ (z : ℕ). eqb z j) et) ∙ sym n

-- ---- one pair of states more

abbrev pub FilledTo : List ℕ → ℕ → ℕ → ℕ → List ℕ → Type 0
FilledTo inn s k i I = (j : ℕ) → j < i → Image inn s k (j / s) (j % s) (get_or I j 0)

module _ (inn : List ℕ) (s k m : ℕ) (A : ImagesArgs inn s k m) where
  pub pair-args : (i : ℕ) → i < s * s → RowArgs inn s k (i / s) (i % s) 0 0
  pair-args i h = record {
    few = A.few;
    labels = A.labels;
    left = (div-lt_iff_lt-mul A.some).1 h;
    right = mod-lt i A.some;
    inner_count = A.inner_count;
    inner_below = A.inner_below;
    small = omega arith;
  }

  pub fill-next : (i x : ℕ) (I : List ℕ) → i < length I → FilledTo inn s k i I → Image inn s k (i / s) (i % s) x
      → FilledTo inn s k (i + 1) (set I i x)
  fill-next i x I room L X j h = elim (ℕ_discrete j i) [
    | yes e ↦ rw (e, get_or-set_same I i x 0 room) X
    | no e ↦ rw (get_or-set_other I i j x 0 e) (L j (omega arith))
  ]

  pub images-all : (I : List ℕ) → length I ≡ m → FilledTo inn s k (s * s) I → Images inn s k I
  images-all I e L = record {
    wide = omega (arith, A.room);
    are = λ p q hp hq. go (p * s + q) p q (digits_div p hq) (digits_mod p hq) (omega (arith, stride s p s hp));
  }
    where
      go : (j p q : ℕ) → j / s ≡ p → j % s ≡ q → j < s * s → Image inn s k p q (get_or I j 0)
      go j p q ep eq h = rw (← ep, ← eq) (L j h)

-- ---- a row lowered state by state

pub record LoweredTo (f : ℕ → ℕ) (j : ℕ) (before after : List ℕ) : Type 0 where
  pub wide : length after ≡ length before
  pub done : (i : ℕ) → i < j → get_or after i 0 ≡ min (get_or before i 0) (f i)
  pub rest : (i : ℕ) → j ≤ i → get_or after i 0 ≡ get_or before i 0

-- ---- the least over all labels

module _ (inn : List ℕ) (s k p q a : ℕ) (may : ℕ → Bool) (base x : ℕ) (A : ImageArgs inn s k p q a may base x) where
  abbrev to : ℕ → ℕ
  to b = get_or inn ((p * k + b) * s + q) 0

  abbrev own : ℕ → ℕ
  own j = cond (eqb (to a) j) base no_way_out

  abbrev others : ℕ → ℕ
  others j = cond (member x j) (base + 1) no_way_out

  abbrev by : ℕ → ℕ → ℕ
  by j = label_cost inn s k p q a may base j

  module _ (j : ℕ) where
    own-hit : to a ≡ j → by j a ≡ base
    unfolding label_cost
    own-hit e = rw (eq-eqb (to a) j e, eq-eqb a a refl) (omega arith)

    other-hit : (b : ℕ) → b < k → to b ≡ j → (a ≡ b → ⊥) → by j b ≡ base + 1
    unfolding label_cost
    other-hit b l e n = rw (eq-eqb (to b) j e, ne_eqb a b n, A.all b l)

    hit-most : (b : ℕ) → b < k → to b ≡ j → by j b ≤ base + 1
    hit-most b l e = elim (ℕ_discrete a b) [
      | yes z ↦ omega (arith, ap (by j) (sym z) ∙ own-hit (ap to z ∙ e))
      | no z ↦ omega (arith, other-hit b l e z)
    ]

    miss : (b : ℕ) → (to b ≡ j → ⊥) → by j b ≡ 65536
    unfolding label_cost
    miss b n = rw (ne_eqb (to b) j n)

    own-low : own j ≤ 65536
    own-low = by-eq (λ (y : ℕ). y ≤ 65536) (to a) j (λ e. omega (arith, A.below)) (λ e. omega arith)

    own-most : least_to no_way_out k (by j) ≤ own j
    own-most = by-eq (λ (y : ℕ). least_to no_way_out k (by j) ≤ y) (to a) j
        (λ e. omega (arith, own-hit e, least-le no_way_out k (by j) a A.own)) (λ e. least-far no_way_out k (by j))

    module _ (h : j < s) where
      others-most : least_to no_way_out k (by j) ≤ others j
      others-most = by-test (λ (y : ℕ). least_to no_way_out k (by j) ≤ y) (member x j)
          (λ e. elim (dec_lt (base + 1) (least_to no_way_out k (by j))) [
            | yes l ↦ absurd (true-false (sym e ∙ A.image j h
                ∙ any-no k (λ b. eqb (to b) j) (λ b m. ne_eqb (to b) j (λ z. omega (arith, hit-most b m z, least-le no_way_out k (by j) b m)))))
            | no l ↦ omega arith
          ]) (λ e. least-far no_way_out k (by j))

      each : (b : ℕ) → b < k → min (own j) (others j) ≤ by j b
      each b l = elim (ℕ_discrete (to b) j) [
        | yes e ↦ elim (ℕ_discrete a b) [
          | yes z ↦ (let o : own j ≡ base = ap (λ (c : Bool). cond c base no_way_out) (eq-eqb (to a) j (ap to z ∙ e)) in
              omega (arith, o, ap (by j) (sym z) ∙ own-hit (ap to z ∙ e)))
          | no z ↦ (let o : others j ≡ base + 1 = ap (λ (c : Bool). cond c (base + 1) no_way_out)
              (A.image j h ∙ any-yes k (λ b. eqb (to b) j) b l (eq-eqb (to b) j e)) in
              omega (arith, o, other-hit b l e z))
        ]
        | no e ↦ omega (arith, own-low, miss b e)
      ]

      pub image-cost : labels_cost inn s k p q a may base j
          ≡ min (cond (eqb (get_or inn ((p * k + a) * s + q) 0) j) base no_way_out) (cond (member x j) (base + 1) no_way_out)
      image-cost = omega (
        arith,
        own-most,
        others-most,
        least-ge (min (own j) (others j)) (omega (arith, own-low)) k (by j) each,
      )

  pub image-relaxed : (before row after : List ℕ)
      → Relaxed s (λ j. cond (eqb (get_or inn ((p * k + a) * s + q) 0) j) base no_way_out) before row
      → Relaxed s (λ j. cond (member x j) (base + 1) no_way_out) row after
      → Relaxed s (labels_cost inn s k p q a may base) before after
  image-relaxed before row after L M = record {
    wide = M.wide ∙ L.wide;
    costs = λ j h. omega (arith, L.costs j h, M.costs j h, image-cost j h);
  }

-- ---- what the loops need of the sets

pub image-args : (inn : List ℕ) (s k p q a : ℕ) (may : ℕ → Bool) (base : ℕ) (I : List ℕ) → RowArgs inn s k p q a base → base < no_way_out
    → ImagesFit inn s k a may I → (length I ≡ 0 → ⊥) → ImageArgs inn s k p q a may base (get_or I (p * s + q) 0)
image-args inn s k p q a may base I R h F e = record {
  row = R;
  own = (F e).own;
  all = (F e).all;
  below = h;
  image = (F e).images.are p q R.left R.right;
}

pub images-fit : (inn : List ℕ) (s k : ℕ) (ls may : List ℕ) (v m : ℕ) (I : List ℕ) → k ≤ 64 → m ≡ stock_of may v
    → ImagesFor inn s k ls may I → ImagesFit inn s k (get_or ls v 0) (member m) I
images-fit inn s k ls may v m I h em F e = record {
  own = (F e).1 v;
  all = λ b l. ap (λ (x : ℕ). member x b) em ∙ every-label may (F e).0 v b (omega arith);
  images = (F e).2;
}
