-- The inner nodes of a block, as a list.
--
-- block_length == the nodes of a block; the last block may have fewer
-- from b l i == where the nodes after the first i listed ones begin: after the last of these, or at b
-- Listed ks b e c l == the first c elements of l are the inner nodes of b, .. e - 1 by the kinds ks, in rising order:
--   between two of them, before the first and after the last there are leaves only
-- ListArgs ks b e m == what listing them into m cells needs
use Rattle.std.specs.Prelude.{ℕ, zero, suc, ◌+◌, ◌≤◌, ◌<◌, ◌≡◌, List, length, get_or}
use Rattle.formats.specs.Limits.{node_limit}

abbrev pub block_length : ℕ
block_length = 1024

unfoldable pub from : ℕ → List ℕ → ℕ → ℕ
from b l zero = b
from b l (suc i) = get_or l i 0 + 1

pub record Listed (ks : List ℕ) (b e c : ℕ) (l : List ℕ) : Type 0 where
  pub few : c + b ≤ e
  pub begins : (i : ℕ) → i < c → b ≤ get_or l i 0
  pub ends : (i : ℕ) → i < c → get_or l i 0 < e
  pub inner : (i : ℕ) → i < c → get_or ks (get_or l i 0) 0 ≡ 0 → ⊥
  pub gaps : (i p : ℕ) → i < c → from b l i ≤ p → p < get_or l i 0 → get_or ks p 0 ≡ 0
  pub rest : (p : ℕ) → from b l c ≤ p → p < e → get_or ks p 0 ≡ 0

pub record ListArgs (ks : List ℕ) (b e m : ℕ) : Type 0 where
  pub order : b ≤ e
  pub inside : e ≤ length ks
  pub most : length ks ≤ node_limit
  pub fits : e ≤ b + m
  pub kinds : (j : ℕ) → j < length ks → get_or ks j 0 ≤ 1
