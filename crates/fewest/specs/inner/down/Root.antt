-- The root.
--
-- root_cost W mk at mark j == the cost of state j at the root, whose costs stand in W from `at` on; 65,536 where its
--   mark is another
-- RootArgs W mk s at == what the loops over the states need
use Rattle.std.specs.Prelude.{ℕ, ◌+◌, ◌≤◌, ◌≡◌, cond, List, eqb, length, get_or}
use Rattle.fewest.specs.Least.{no_way_out}

unfoldable pub root_cost : List ℕ → List ℕ → ℕ → ℕ → ℕ → ℕ
root_cost W mk at mark j = cond (eqb (get_or mk j 0) mark) (get_or W (at + j) 0) no_way_out

pub record RootArgs (W mk : List ℕ) (s at : ℕ) : Type 0 where
  pub few : s ≤ 16
  pub room : at + s ≤ length W
  pub marks : length mk ≡ s
