-- The first way into a state at its cost.
--
-- any_of n f == whether f holds of some number below n
-- First n f r == r is the first number below n of which f holds, and n where there is none
-- label_hit, right_hit, left_hit == whether state j is had at cost c: by label b, over states p and q that cost `base`
--   together; by some label, over left state p, which costs x, and right state q; by some right state and label, over
--   left state p. The costs of the left and of the right states stand in W from `from` and from `at` on
-- Chosen == p, q and b are the first way: first left state, then first right state, then first label
-- RightSearch, LeftSearch == what the searches need
use Rattle.std.specs.Prelude.{ℕ, zero, suc, ◌+◌, ◌*◌, ◌≤◌, ◌<◌, ◌≡◌, Bool, true, false, ◌||◌, List, eqb, length, get_or}
use Rattle.fewest.specs.Least.{no_way_out}
use Rattle.fewest.specs.inner.Rows.{label_cost}

unfoldable pub any_of : ℕ → (ℕ → Bool) → Bool
any_of zero f = false
any_of (suc n) f = any_of n f || f n

pub record First (n : ℕ) (f : ℕ → Bool) (r : ℕ) : Type 0 where
  pub most : r ≤ n
  pub before : (i : ℕ) → i < r → f i ≡ false
  pub hit : r < n → f r ≡ true

abbrev pub label_hit : List ℕ → ℕ → ℕ → ℕ → ℕ → ℕ → (ℕ → Bool) → ℕ → ℕ → ℕ → ℕ → Bool
label_hit inn s k p q a may base j c b = eqb (label_cost inn s k p q a may base j b) c

abbrev pub right_hit : List ℕ → List ℕ → ℕ → ℕ → ℕ → ℕ → ℕ → ℕ → (ℕ → Bool) → ℕ → ℕ → ℕ → Bool
right_hit W inn s k p x at a may j c q = any_of k (label_hit inn s k p q a may (x + get_or W (at + q) 0) j c)

abbrev pub left_hit : List ℕ → List ℕ → ℕ → ℕ → ℕ → ℕ → ℕ → (ℕ → Bool) → ℕ → ℕ → ℕ → Bool
left_hit W inn s k from at a may j c p = any_of s (right_hit W inn s k p (get_or W (from + p) 0) at a may j c)

pub record Chosen (W inn : List ℕ) (s k from at a : ℕ) (may : ℕ → Bool) (j c p q b : ℕ) : Type 0 where
  pub left_in : p < s
  pub right_in : q < s
  pub label_in : b < k
  pub left : First s (left_hit W inn s k from at a may j c) p
  pub right : First s (right_hit W inn s k p (get_or W (from + p) 0) at a may j c) q
  pub label : First k (label_hit inn s k p q a may (get_or W (from + p) 0 + get_or W (at + q) 0) j c) b

pub record RightSearch (W inn : List ℕ) (s k p x at c : ℕ) : Type 0 where
  pub few : s ≤ 16
  pub labels : k ≤ 64
  pub inner_count : length inn ≡ s * k * s
  pub inner_below : (j : ℕ) → get_or inn j 0 < s
  pub left_in : p < s
  pub left_low : x ≤ no_way_out
  pub right_room : at + s ≤ length W
  pub right_low : (q : ℕ) → q < s → get_or W (at + q) 0 ≤ no_way_out
  pub under : c < no_way_out

pub record LeftSearch (W inn : List ℕ) (s k from at c : ℕ) : Type 0 where
  pub few : s ≤ 16
  pub labels : k ≤ 64
  pub inner_count : length inn ≡ s * k * s
  pub inner_below : (j : ℕ) → get_or inn j 0 < s
  pub left_room : from + s ≤ length W
  pub left_low : (p : ℕ) → p < s → get_or W (from + p) 0 ≤ no_way_out
  pub right_room : at + s ≤ length W
  pub right_low : (q : ℕ) → q < s → get_or W (at + q) 0 ≤ no_way_out
  pub under : c < no_way_out
