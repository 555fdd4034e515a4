-- The first way as the code finds it is the definition's choice.
--     found                         below far there is a way
--     left_is, right_is, label_is   its left state, right state and label are those of `witness`
--     none-under                    over states that cost more than c no label costs c
use Prim.Native.Nat.{ℕ, ◌+◌, ◌*◌, ◌≤◌, ◌<◌}
use mathlib.Core.Path.{◌≡◌, sym, ap₂, ◌∙◌}
use mathlib.Core.Bool.{Bool, true, false}
use mathlib.Core.List.{List}
use native.Mathlib.Omega.{arith}
use lib.Dec.{eqb}
use lib.ListN.{get_or}
use borrow.Author.Tests.{eqb-true, eq-eqb, ne_eqb}
use Rattle.list_laws.proofs.Choice.{by-eq}
use Rattle.state_sets.specs.StateSets.{member}
use Rattle.fewest.specs.inner.Cost.{inner_cost, least_label, least_right, least_left, left_choice, right_choice}
use Rattle.fewest.specs.inner.Cost.{label_choice}
use Rattle.fewest.proofs.costs.LeastLaws.{least-le}
use Rattle.fewest.specs.inner.Rows.{label_cost, RowArgs}
use Rattle.fewest.specs.inner.Problems.{problem_for}
use Rattle.fewest.specs.inner.down.Search.{any_of, label_hit, right_hit, left_hit, Chosen, RightSearch, LeftSearch}
use Rattle.fewest.proofs.down.AnyLaws.{any-no, any-ext, any-least, first-place}

pub none-under : (inn : List ℕ) (s k p q a : ℕ) (may : ℕ → Bool) (base j c : ℕ) → c < base → c < 65536
    → false ≡ any_of k (label_hit inn s k p q a may base j c)
unfolding label_cost
none-under inn s k p q a may base j c h u =
    sym (any-no k (label_hit inn s k p q a may base j c) (λ b l. ne_eqb (label_cost inn s k p q a may base j b) c
    (by-eq (λ (x : ℕ). x ≡ c → ⊥) (get_or inn ((p * k + b) * s + q) 0) j (λ e z. omega arith) (λ e z. omega arith))))

module _ (s k : ℕ) (lv inn : List ℕ) (stock : ℕ → ℕ) (acc : ℕ → Bool) (v a j c : ℕ) (f g : ℕ → ℕ)
    (is : least_left (problem_for s k lv inn stock acc) v a j f g ≡ c) (u : c < 65536) where
  right_le : (p : ℕ) → p < s → c ≤ least_right (problem_for s k lv inn stock acc) v a j (f p) p g
  right_le p h =
      omega (arith, is, least-le 65536 s (λ p. least_right (problem_for s k lv inn stock acc) v a j (f p) p g) p h)

  label-le : (p q : ℕ) → p < s → q < s → c ≤ least_label (problem_for s k lv inn stock acc) v a j (f p) p (g q) q
  label-le p q h l =
      omega (
        arith,
        right_le p h,
        least-le 65536 s (λ q. least_label (problem_for s k lv inn stock acc) v a j (f p) p (g q) q) q l,
      )

  module _ (W : List ℕ) (from at : ℕ) (e_f : (p : ℕ) → p < s → get_or W (from + p) 0 ≡ f p)
      (e_g : (q : ℕ) → q < s → get_or W (at + q) 0 ≡ g q) where
    hits-label : (p q b : ℕ) → p < s → q < s
        → label_hit inn s k p q a (member (stock v)) (get_or W (from + p) 0 + get_or W (at + q) 0) j c b
        ≡ eqb (inner_cost (problem_for s k lv inn stock acc) v a j (f p) p (g q) q b) c
    unfolding label_cost inner_cost
    hits-label p q b h l =
        ap₂ (λ (x y : ℕ). label_hit inn s k p q a (member (stock v)) (x + y) j c b) (e_f p h) (e_g q l)

    hits-right : (p q : ℕ) → p < s → q < s
        → right_hit W inn s k p (get_or W (from + p) 0) at a (member (stock v)) j c q
        ≡ eqb (least_label (problem_for s k lv inn stock acc) v a j (f p) p (g q) q) c
    hits-right p q h l =
        any-ext k (label_hit inn s k p q a (member (stock v)) (get_or W (from + p) 0 + get_or W (at + q) 0) j c)
        (λ b. eqb (inner_cost (problem_for s k lv inn stock acc) v a j (f p) p (g q) q b) c) (λ b m. hits-label p q b h l)
        ∙ any-least 65536 k (inner_cost (problem_for s k lv inn stock acc) v a j (f p) p (g q) q) c u (label-le p q h l)

    hits-left : (p : ℕ) → p < s
        → left_hit W inn s k from at a (member (stock v)) j c p ≡ eqb (least_right (problem_for s k lv inn stock acc) v a j (f p) p g) c
    hits-left p h =
        any-ext s (right_hit W inn s k p (get_or W (from + p) 0) at a (member (stock v)) j c)
        (λ q. eqb (least_label (problem_for s k lv inn stock acc) v a j (f p) p (g q) q) c) (λ q l. hits-right p q h l)
        ∙ any-least 65536 s (λ q. least_label (problem_for s k lv inn stock acc) v a j (f p) p (g q) q) c u (right_le p h)

    pub found : any_of s (left_hit W inn s k from at a (member (stock v)) j c) ≡ true
    found =
        any-ext s (left_hit W inn s k from at a (member (stock v)) j c)
        (λ p. eqb (least_right (problem_for s k lv inn stock acc) v a j (f p) p g) c) hits-left
        ∙ any-least 65536 s (λ p. least_right (problem_for s k lv inn stock acc) v a j (f p) p g) c u (omega (arith, is))
        ∙ eq-eqb (least_left (problem_for s k lv inn stock acc) v a j f g) c is

    module _ (p q b : ℕ) (C : Chosen W inn s k from at a (member (stock v)) j c p q b) where
      pub left_is : p ≡ left_choice (problem_for s k lv inn stock acc) v a j f g
      left_is = first-place 65536 s (λ p. least_right (problem_for s k lv inn stock acc) v a j (f p) p g) c p
          (left_hit W inn s k from at a (member (stock v)) j c) u is hits-left C.left

      right-least : least_right (problem_for s k lv inn stock acc) v a j (f p) p g ≡ c
      right-least = eqb-true (least_right (problem_for s k lv inn stock acc) v a j (f p) p g) c
          (sym (hits-left p C.left_in) ∙ C.left.hit C.left_in)

      pub right_is : q ≡ right_choice (problem_for s k lv inn stock acc) v a j (f p) p g
      right_is = first-place 65536 s (λ q. least_label (problem_for s k lv inn stock acc) v a j (f p) p (g q) q) c q
          (right_hit W inn s k p (get_or W (from + p) 0) at a (member (stock v)) j c) u right-least
          (λ i l. hits-right p i C.left_in l) C.right

      label-least : least_label (problem_for s k lv inn stock acc) v a j (f p) p (g q) q ≡ c
      label-least = eqb-true (least_label (problem_for s k lv inn stock acc) v a j (f p) p (g q) q) c
          (sym (hits-right p q C.left_in C.right_in) ∙ C.right.hit C.right_in)

      pub label_is : b ≡ label_choice (problem_for s k lv inn stock acc) v a j (f p) p (g q) q
      label_is = first-place 65536 k (inner_cost (problem_for s k lv inn stock acc) v a j (f p) p (g q) q) c b
          (label_hit inn s k p q a (member (stock v)) (get_or W (from + p) 0 + get_or W (at + q) 0) j c) u label-least
          (λ i l. hits-label p q i C.left_in C.right_in) C.label

-- ---- what the searches need

pub row-args : (W inn : List ℕ) (s k p x at a c q : ℕ) → RightSearch W inn s k p x at c → q < s → RowArgs inn s k p q a (x + get_or W (at + q) 0)
row-args W inn s k p x at a c q R h = record {
  few = R.few;
  labels = R.labels;
  left = R.left_in;
  right = h;
  inner_count = R.inner_count;
  inner_below = R.inner_below;
  small = omega (arith, R.left_low, R.right_low q h);
}

pub right-search : (W inn : List ℕ) (s k from at c p : ℕ) → LeftSearch W inn s k from at c → p < s
    → RightSearch W inn s k p (get_or W (from + p) 0) at c
right-search W inn s k from at c p L h = record {
  few = L.few;
  labels = L.labels;
  inner_count = L.inner_count;
  inner_below = L.inner_below;
  left_in = h;
  left_low = L.left_low p h;
  right_room = L.right_room;
  right_low = L.right_low;
  under = L.under;
}
