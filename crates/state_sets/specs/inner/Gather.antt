-- The positions of a table whose entries are in a set.
--
-- gathered_from T base stride set n == the set of those i below n whose table entry at base + i * stride is in `set`
-- GatherArgs T base stride n == these positions are in the table T, n is at most 64, and every entry is below 16
-- BitArgs r b i == b is a bit, and the set r has no member from i on
use Rattle.std.specs.Prelude.{ℕ, ◌+◌, ◌*◌, ◌^◌, ◌≤◌, ◌<◌, List, length, get_or}
use Rattle.state_sets.specs.StateSets.{set_of, member}

unfoldable pub gathered_from : List ℕ → ℕ → ℕ → ℕ → ℕ → ℕ
gathered_from T base stride set n = set_of n (λ i. member set (get_or T (base + i * stride) 0))

pub record GatherArgs (T : List ℕ) (base stride n : ℕ) : Type 0 where
  pub few : n ≤ 64
  pub inside : (i : ℕ) → i < n → base + i * stride < length T
  pub below : (j : ℕ) → get_or T j 0 < 16

pub record BitArgs (r b i : ℕ) : Type 0 where
  pub one : b < 2
  pub few : i < 64
  pub low : r < 2 ^ i
