-- The turns of the loops over a row of costs.
--     cost-yes, cost-no     a shift and a mask tell membership
--     relax-start, relax-next   one label more; step_start, step-next   one state more
use Prim.Native.Nat.{ℕ, zero, suc, ◌+◌, ◌*◌, ◌/◌, ◌%◌, ◌^◌, ◌≤◌, ◌<◌, min}
use mathlib.Core.Path.{◌≡◌, refl, sym, ap, ◌∙◌}
use mathlib.Core.Bool.{Bool, cond}
use mathlib.Core.List.{List}
use native.Mathlib.Decide.{ℕ_discrete}
use native.Mathlib.Numerals.{add-one}
use native.Mathlib.Nat.{mul-le-mul_right}
use native.Mathlib.Omega.{arith}
use lib.Bits.{bit_and, and_mask}
use lib.ListN.{length, get_or, set, length-set}
use lib.Seq.{get_or-set_same, get_or-set_other}
use borrow.Author.Tests.{eq-eqb, ne_eqb}
use Rattle.list_laws.proofs.Choice.{by-eq}
use Rattle.list_laws.proofs.RowLaws.{stride}
use Rattle.formats.specs.inner.InnerChecks.{RuleArgs}
use Rattle.formats.proofs.RuleLaws.{rule-in}
use Rattle.state_sets.specs.StateSets.{member}
use Rattle.fewest.specs.Least.{least_to, no_way_out}
use Rattle.fewest.proofs.costs.LeastLaws.{least-far}
use Rattle.fewest.specs.inner.Rows.{change_of, label_cost, labels_cost, leaf_cost, Relaxed, CostRow, RowArgs}
use Rattle.fewest.specs.inner.Rows.{RightArgs, LeftArgs, LeafArgs}

-- ---- the cost of a member of a set

pub cost-yes : (x j c : ℕ) → bit_and (x / 2 ^ j) 1 ≡ 1 → c ≡ cond (member x j) c no_way_out
unfolding member
cost-yes x j c e =
    let z : x / 2 ^ j % 2 ≡ 1 = sym (and_mask (x / 2 ^ j) 1) ∙ e in
    rw (eq-eqb (x / 2 ^ j % 2) 1 z)

pub cost-no : (x j c : ℕ) → (bit_and (x / 2 ^ j) 1 ≡ 1 → ⊥) → 65536 ≡ cond (member x j) c no_way_out
unfolding member
cost-no x j c e =
    let z : x / 2 ^ j % 2 ≡ 1 → ⊥ = λ q. e (and_mask (x / 2 ^ j) 1 ∙ q) in
    rw (ne_eqb (x / 2 ^ j % 2) 1 z)

-- ---- one label more

-- the costs by the first b labels
abbrev pub so_far : List ℕ → ℕ → ℕ → ℕ → ℕ → ℕ → (ℕ → Bool) → ℕ → ℕ → ℕ → ℕ
so_far inn s k p q a may base b j = least_to no_way_out b (label_cost inn s k p q a may base j)

module _ (inn : List ℕ) (s k p q a base : ℕ) (may : ℕ → Bool) (R : RowArgs inn s k p q a base) where
  pub rule-args : (b : ℕ) → b < k → RuleArgs inn s k p b q
  rule-args b h = record {
    small = omega (arith, stride k p s R.left, mul-le-mul_right k R.few, R.labels);
    inside = omega (arith, rule-in s k p b q R.left h R.right, R.inner_count);
  }

  pub relax-start : (row : List ℕ) → CostRow s row → Relaxed s (so_far inn s k p q a may base 0) row row
  unfolding least_to
  relax-start row C = record { wide = refl; costs = λ j h. omega (arith, C.low j h) }

  pub relax-next : (b : ℕ) (before r : List ℕ) (x : ℕ) → s ≤ length before → Relaxed s (so_far inn s k p q a may base b) before r
      → x ≡ base + change_of may a b
      → Relaxed s (so_far inn s k p q a may base (b + 1)) before
      (set r (get_or inn ((p * k + b) * s + q) 0) (min (get_or r (get_or inn ((p * k + b) * s + q) 0) 0) x))
  unfolding least_to label_cost
  relax-next b before r x room L e =
      let to : ℕ = get_or inn ((p * k + b) * s + q) 0 in
      let ht : get_or inn ((p * k + b) * s + q) 0 < s = R.inner_below ((p * k + b) * s + q) in
      record {
        wide = length-set r (get_or inn ((p * k + b) * s + q) 0) (min (get_or r (get_or inn ((p * k + b) * s + q) 0) 0) x) ∙ L.wide;
        costs = λ j h. elim (ℕ_discrete j (get_or inn ((p * k + b) * s + q) 0)) [
          | yes z ↦ (let c : label_cost inn s k p q a may base j b ≡ base + change_of may a b =
              ap (λ (y : Bool). cond y (base + change_of may a b) no_way_out) (eq-eqb (get_or inn ((p * k + b) * s + q) 0) j (sym z)) in
              let n : least_to no_way_out (b + 1) (label_cost inn s k p q a may base j)
              ≡ min (least_to no_way_out b (label_cost inn s k p q a may base j)) (label_cost inn s k p q a may base j b) = rw (add-one b) in
              let g : get_or (set r (get_or inn ((p * k + b) * s + q) 0) (min (get_or r (get_or inn ((p * k + b) * s + q) 0) 0) x)) j 0
              ≡ min (get_or r (get_or inn ((p * k + b) * s + q) 0) 0) x =
              ap (λ (i : ℕ). get_or (set r (get_or inn ((p * k + b) * s + q) 0) (min (get_or r (get_or inn ((p * k + b) * s + q) 0) 0) x)) i 0) z
              ∙ get_or-set_same r (get_or inn ((p * k + b) * s + q) 0) (min (get_or r (get_or inn ((p * k + b) * s + q) 0) 0) x) 0
              (omega (arith, L.wide)) in
              let f : get_or r (get_or inn ((p * k + b) * s + q) 0) 0
              ≡ min (get_or before j 0) (least_to no_way_out b (label_cost inn s k p q a may base j)) =
              ap (λ (i : ℕ). get_or r i 0) (sym z) ∙ L.costs j h in
              omega (arith, c, n, g, f, e))
          | no z ↦ (let c : label_cost inn s k p q a may base j b ≡ no_way_out =
              ap (λ (y : Bool). cond y (base + change_of may a b) no_way_out) (ne_eqb (get_or inn ((p * k + b) * s + q) 0) j (λ w. z (sym w))) in
              let n : least_to no_way_out (b + 1) (label_cost inn s k p q a may base j)
              ≡ min (least_to no_way_out b (label_cost inn s k p q a may base j)) (label_cost inn s k p q a may base j b) = rw (add-one b) in
              let g = get_or-set_other r (get_or inn ((p * k + b) * s + q) 0) j
              (min (get_or r (get_or inn ((p * k + b) * s + q) 0) 0) x) 0 z in
              omega (arith, c, n, g, L.costs j h, least-far no_way_out b (label_cost inn s k p q a may base j)))
        ];
      }

  -- the same with the numbers as the code has them
  pub relax-turn : (b : ℕ) (before r : List ℕ) (to c y : ℕ) → s ≤ length before → Relaxed s (so_far inn s k p q a may base b) before r
      → to ≡ get_or inn ((p * k + b) * s + q) 0 → c ≡ change_of may a b → y ≡ min (get_or r to 0) (base + c)
      → Relaxed s (so_far inn s k p q a may base (b + 1)) before (set r to y)
  relax-turn b before r to c y room L et ec ey =
      rw (ey, et) (relax-next b before r (base + c) room L (ap (λ (z : ℕ). base + z) ec))

-- ---- states that cost 65,536 or more together lower nothing

pub least-ge : (m : ℕ) → m ≤ no_way_out → (n : ℕ) (f : ℕ → ℕ) → ((b : ℕ) → b < n → m ≤ f b) → m ≤ least_to no_way_out n f
unfolding least_to
least-ge m e zero f h = e
least-ge m e (suc n) f h = omega (arith, least-ge m e n f (λ b l. h b (omega arith)), h n (omega arith))

pub relax-none : (inn : List ℕ) (s k p q a : ℕ) (may : ℕ → Bool) (base : ℕ) (row : List ℕ) → 65536 ≤ base → CostRow s row
    → Relaxed s (labels_cost inn s k p q a may base) row row
unfolding label_cost
relax-none inn s k p q a may base row h C = record {
  wide = refl;
  costs = λ j l. omega (
    arith,
    C.low j l,
    least-ge 65536 (omega arith) k (label_cost inn s k p q a may base j) (λ b m.
        by-eq (λ (x : ℕ). 65536 ≤ x) (get_or inn ((p * k + b) * s + q) 0) j (λ e. omega arith) (λ e. omega arith)),
  );
}

-- ---- one state more: rows lowered by one cost after the other

pub step_start : (s : ℕ) (c : ℕ → ℕ → ℕ) (row : List ℕ) → CostRow s row → Relaxed s (λ j. least_to no_way_out 0 (λ q. c q j)) row row
unfolding least_to
step_start s c row C = record { wide = refl; costs = λ j h. omega (arith, C.low j h) }

pub step-next : (s : ℕ) (c : ℕ → ℕ → ℕ) (q : ℕ) (before r after : List ℕ) → Relaxed s (λ j. least_to no_way_out q (λ q. c q j)) before r
    → Relaxed s (c q) r after → Relaxed s (λ j. least_to no_way_out (q + 1) (λ q. c q j)) before after
unfolding least_to
step-next s c q before r after L M = record {
  wide = M.wide ∙ L.wide;
  costs = λ j h. let n : least_to no_way_out (q + 1) (λ q. c q j) ≡ min (least_to no_way_out q (λ q. c q j)) (c q j) = rw (add-one q) in
      omega (arith, n, L.costs j h, M.costs j h);
}

-- a lowered row is a row of costs
pub row_kept : (s : ℕ) (c : ℕ → ℕ) (before after : List ℕ) → CostRow s before → Relaxed s c before after → CostRow s after
row_kept s c before after C R = record {
  wide = omega (arith, C.wide, R.wide);
  low = λ j h. omega (arith, R.costs j h, C.low j h);
}

pub labels-args : (inn : List ℕ) (s k p a left : ℕ) (R : List ℕ) → RightArgs inn s k p a left R → (q : ℕ) → q < s
    → RowArgs inn s k p q a (left + get_or R q 0)
labels-args inn s k p a left R A q h = record {
  few = A.few;
  labels = A.labels;
  left = A.left_in;
  right = h;
  inner_count = A.inner_count;
  inner_below = A.inner_below;
  small = omega (arith, A.left_low, A.right.low q h);
}

pub right-args : (inn : List ℕ) (s k a : ℕ) (L R : List ℕ) → LeftArgs inn s k a L R → (p : ℕ) → p < s
    → RightArgs inn s k p a (get_or L p 0) R
right-args inn s k a L R A p h = record {
  few = A.few;
  labels = A.labels;
  left_in = h;
  left_low = A.left.low p h;
  inner_count = A.inner_count;
  inner_below = A.inner_below;
  right = A.right;
}

-- ---- a leaf: one label more

module _ (lv : List ℕ) (s k a : ℕ) (may : ℕ → Bool) (A : LeafArgs lv s k) where
  pub leaf-start : (row : List ℕ) → CostRow s row → Relaxed s (λ j. least_to no_way_out 0 (leaf_cost lv a may j)) row row
  unfolding least_to
  leaf-start row C = record { wide = refl; costs = λ j h. omega (arith, C.low j h) }

  pub leaf-turn : (b : ℕ) (before r : List ℕ) (c y : ℕ) → s ≤ length before → Relaxed s (λ j. least_to no_way_out b (leaf_cost lv a may j)) before r
      → c ≡ change_of may a b → y ≡ min (get_or r (get_or lv b 0) 0) c
      → Relaxed s (λ j. least_to no_way_out (b + 1) (leaf_cost lv a may j)) before (set r (get_or lv b 0) y)
  unfolding least_to leaf_cost
  leaf-turn b before r c y room L ec ey =
      let ht : get_or lv b 0 < s = A.below b in
      record {
        wide = length-set r (get_or lv b 0) y ∙ L.wide;
        costs = λ j h.
            let n : least_to no_way_out (b + 1) (leaf_cost lv a may j) ≡ min (least_to no_way_out b (leaf_cost lv a may j)) (leaf_cost lv a may j b) =
            rw (add-one b) in
            elim (ℕ_discrete j (get_or lv b 0)) [
              | yes z ↦ (let x : leaf_cost lv a may j b ≡ change_of may a b =
                  ap (λ (w : Bool). cond w (change_of may a b) no_way_out) (eq-eqb (get_or lv b 0) j (sym z)) in
                  let g : get_or (set r (get_or lv b 0) y) j 0 ≡ y =
                  ap (λ (i : ℕ). get_or (set r (get_or lv b 0) y) i 0) z ∙ get_or-set_same r (get_or lv b 0) y 0 (omega (arith, L.wide)) in
                  let f : get_or r (get_or lv b 0) 0 ≡ min (get_or before j 0) (least_to no_way_out b (leaf_cost lv a may j)) =
                  ap (λ (i : ℕ). get_or r i 0) (sym z) ∙ L.costs j h in
                  omega (arith, x, n, g, f, ec, ey))
              | no z ↦ (let x : leaf_cost lv a may j b ≡ no_way_out =
                  ap (λ (w : Bool). cond w (change_of may a b) no_way_out) (ne_eqb (get_or lv b 0) j (λ w. z (sym w))) in
                  omega (
                    arith,
                    x,
                    n,
                    get_or-set_other r (get_or lv b 0) j y 0 z,
                    L.costs j h,
                    least-far no_way_out b (leaf_cost lv a may j),
                  ))
            ];
      }
