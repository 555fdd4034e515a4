-- A list's last places: one for all nodes with the same remainder by 256, so that a node whose own place it is has no
-- later entry.
--
-- LastPlaces n vs last == `last` has a place for every remainder, and none of the first n nodes of vs is behind the one
--   of its remainder
-- PlaceArgs vs last i == so it is for the whole list, of at most 64, and place i is inside
use Rattle.std.specs.Prelude.{ℕ, ◌%◌, ◌≤◌, ◌<◌, ◌≡◌, List, length, get_or}
use Rattle.formats.specs.Limits.{change_limit}

pub record LastPlaces (n : ℕ) (vs last : List ℕ) : Type 0 where
  pub wide : length last ≡ 256
  pub none_behind : (j : ℕ) → j < n → j ≤ get_or last (get_or vs j 0 % 256) 0

pub record PlaceArgs (vs last : List ℕ) (i : ℕ) : Type 0 where
  pub places : LastPlaces (length vs) vs last
  pub most : length vs ≤ change_limit
  pub inside : i < length vs
