-- A node's costs for each state, as the code has them.
--
-- change_of m a b == the cost of label b at a node of label a that may take the labels of the set m
-- label_cost inn s k p q a m base j b == the cost of state j by label b, over states p and q that cost `base` together
-- labels_cost, right_cost, left_cost == the least of these over all labels; over all right states, costing g q; over all
--   left states, costing f p
-- leaf_cost lv a m j b == the cost of state j of a leaf by label b; leaf_costs == the least over all labels
-- inner_costs == left_cost with the children's costs as functions
-- Relaxed s c before after == each of the s costs of `before` is lowered to c where c is lower
-- CostRow s row == s costs, none above 65,536; RowArgs, RightArgs, LeftArgs == what the loops need
--
-- 65,536 stands for "no way": no plan has so many nodes. Tied to `inner_cost` and `least_left` (Cost) by
-- proofs/rows/RowLaws.
use Rattle.std.specs.Prelude.{ℕ, ◌+◌, ◌*◌, ◌≤◌, ◌<◌, min, ◌≡◌, Bool, cond, List, eqb, length, get_or}
use Rattle.fewest.specs.Least.{no_way_out, least_to}

-- which labels a node may take, as a test
abbrev pub change_of : (ℕ → Bool) → ℕ → ℕ → ℕ
change_of may a b = cond (eqb a b) 0 (cond (may b) 1 no_way_out)

unfoldable pub label_cost : List ℕ → ℕ → ℕ → ℕ → ℕ → ℕ → (ℕ → Bool) → ℕ → ℕ → ℕ → ℕ
label_cost inn s k p q a may base j b =
    cond (eqb (get_or inn ((p * k + b) * s + q) 0) j) (base + change_of may a b) no_way_out

abbrev pub labels_cost : List ℕ → ℕ → ℕ → ℕ → ℕ → ℕ → (ℕ → Bool) → ℕ → ℕ → ℕ
labels_cost inn s k p q a may base j = least_to no_way_out k (label_cost inn s k p q a may base j)

-- R has the costs of the right states
abbrev pub right_cost : List ℕ → ℕ → ℕ → ℕ → ℕ → (ℕ → Bool) → ℕ → List ℕ → ℕ → ℕ
right_cost inn s k p a may left R j = least_to no_way_out s (λ q. labels_cost inn s k p q a may (left + get_or R q 0) j)

abbrev pub left_cost : List ℕ → ℕ → ℕ → ℕ → (ℕ → Bool) → List ℕ → List ℕ → ℕ → ℕ
left_cost inn s k a may L R j = least_to no_way_out s (λ p. right_cost inn s k p a may (get_or L p 0) R j)

-- the same with the children's costs as functions
abbrev pub inner_costs : List ℕ → ℕ → ℕ → ℕ → (ℕ → Bool) → (ℕ → ℕ) → (ℕ → ℕ) → ℕ → ℕ
inner_costs inn s k a may f g j = least_to no_way_out s (λ p. least_to no_way_out s (λ q. labels_cost inn s k p q a may (f p + g q) j))

unfoldable pub leaf_cost : List ℕ → ℕ → (ℕ → Bool) → ℕ → ℕ → ℕ
leaf_cost lv a may j b = cond (eqb (get_or lv b 0) j) (change_of may a b) no_way_out

abbrev pub leaf_costs : List ℕ → ℕ → ℕ → (ℕ → Bool) → ℕ → ℕ
leaf_costs lv k a may j = least_to no_way_out k (leaf_cost lv a may j)

pub record Relaxed (s : ℕ) (c : ℕ → ℕ) (before after : List ℕ) : Type 0 where
  pub wide : length after ≡ length before
  pub costs : (j : ℕ) → j < s → get_or after j 0 ≡ min (get_or before j 0) (c j)

pub record CostRow (s : ℕ) (row : List ℕ) : Type 0 where
  pub wide : s ≤ length row
  pub low : (j : ℕ) → j < s → get_or row j 0 ≤ no_way_out

pub record LeftArgs (inn : List ℕ) (s k a : ℕ) (L R : List ℕ) : Type 0 where
  pub few : s ≤ 16
  pub labels : k ≤ 64
  pub inner_count : length inn ≡ s * k * s
  pub inner_below : (j : ℕ) → get_or inn j 0 < s
  pub left : CostRow s L
  pub right : CostRow s R

pub record RightArgs (inn : List ℕ) (s k p a left : ℕ) (R : List ℕ) : Type 0 where
  pub few : s ≤ 16
  pub labels : k ≤ 64
  pub left_in : p < s
  pub left_low : left ≤ no_way_out
  pub inner_count : length inn ≡ s * k * s
  pub inner_below : (j : ℕ) → get_or inn j 0 < s
  pub right : CostRow s R

pub record RowArgs (inn : List ℕ) (s k p q a base : ℕ) : Type 0 where
  pub few : s ≤ 16
  pub labels : k ≤ 64
  pub left : p < s
  pub right : q < s
  pub inner_count : length inn ≡ s * k * s
  pub inner_below : (j : ℕ) → get_or inn j 0 < s
  pub small : base ≤ 131072

pub record LeafArgs (lv : List ℕ) (s k : ℕ) : Type 0 where
  pub few : s ≤ 16
  pub labels : k ≤ 64
  pub count : length lv ≡ k
  pub below : (j : ℕ) → get_or lv j 0 < s
