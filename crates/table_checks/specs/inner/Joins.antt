-- Two maps made one, and rows compared through it.
--
-- Joined s b p j i m == the first i entries of m are what the map of node p, then the map of node j, make of a state
-- JoinArgs s b p j m == what joining two maps needs: both rows inside, the first one's entries below s, room in m bytes
-- through_entry m table base stride q == near_entry (tables) composed with the entries m
-- ThroughArgs s l v m table base stride == what comparing with them needs, l bytes in the state table and m entries
use Rattle.std.specs.Prelude.{ℕ, ◌≤◌, ◌<◌, ◌≡◌, List, length, get_or}
use Rattle.tables.specs.StateCells.{map_cell}
use Rattle.tables.specs.inner.Rows.{RowIn, NearArgs}
use Rattle.tables.specs.inner.Compare.{near_entry}

abbrev pub Joined : ℕ → List ℕ → ℕ → ℕ → ℕ → List ℕ → Type 0
Joined s b p j i m = (q : ℕ) → q < i → get_or m q 0 ≡ map_cell s b j (map_cell s b p q)

pub record JoinArgs (s : ℕ) (b : List ℕ) (p j m : ℕ) : Type 0 where
  pub first : RowIn (length b) s p
  pub second : RowIn (length b) s j
  pub below : (q : ℕ) → q < s → map_cell s b p q < s
  pub room : s ≤ m

abbrev pub through_entry : List ℕ → List ℕ → ℕ → ℕ → ℕ → ℕ
through_entry m table base stride q = get_or m (near_entry table base stride q) 0

pub record ThroughArgs (s l v m : ℕ) (table : List ℕ) (base stride : ℕ) : Type 0 where
  pub near : NearArgs l s v (length table) base stride
  pub below : (q : ℕ) → q < s → near_entry table base stride q < m
