-- Colours taking states in turn, as the code has it: from the states that their states above lead to.
--
-- TurnArgs successors == at most 16 states, each below 16
-- TakeArgs successors .. == so, with room for as many bytes from `at` on, and what node v's rows need
-- TakenTo successors n at k v .. == the first k bytes from `at` on are the next copy, and node v's rows in the tables of
--   the colours 1, .. k - 1 follow from its parent's, with what each colour lands on; no other byte and no other number
--   is changed
--
-- A copy from the one above by a step f is the copy from the states led to by the identity: recolour-map, lands-map
-- (colours, proofs/TurnLaws).
use Rattle.std.specs.Prelude.{ℕ, ◌+◌, ◌*◌, ◌≤◌, ◌<◌, ◌≡◌, List, length, get_or}
use Rattle.colours.specs.Colouring.{recolour, lands}
use Rattle.colour_tables.specs.forests.Rows.{next_row, row_cells, NextArgs}

pub record TurnArgs (successors : List ℕ) : Type 0 where
  pub few : length successors ≤ 16
  pub small : (c : ℕ) → c < length successors → get_or successors c 0 < 16

pub record TakeArgs (successors bytes numbers : List ℕ) (n at v : ℕ) : Type 0 where
  pub turns : TurnArgs successors
  pub node : v < n
  pub room : at + length successors ≤ length bytes
  pub next : (c : ℕ) → 0 < c → c < length successors → NextArgs numbers n c v

pub record TakenTo (successors : List ℕ) (n at k v : ℕ) (bytes numbers bytes' numbers' : List ℕ) : Type 0 where
  pub row : (c : ℕ) → c < k → get_or bytes' (at + c) 0 ≡ get_or (recolour (λ q. q) successors) c 0
  pub cells : (c i : ℕ) → 0 < c → c < k → i < 4
      → get_or numbers' (c * (n * 4) + (v * 4 + i)) 0
      ≡ get_or (row_cells (next_row numbers n c v) (lands (λ q. q) successors c)) i 0
  pub bytes_kept : (j : ℕ) → ((c : ℕ) → c < k → j ≡ at + c → ⊥) → get_or bytes' j 0 ≡ get_or bytes j 0
  pub numbers_kept : (j : ℕ) → ((c i : ℕ) → 0 < c → c < k → i < 4 → j ≡ c * (n * 4) + (v * 4 + i) → ⊥)
      → get_or numbers' j 0 ≡ get_or numbers j 0
