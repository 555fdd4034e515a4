-- One node's copy as the code has it: rows of 16 bytes, and what is put where.
--
-- RowOf k f row == the first k of a row are f's values
-- above_cell .. v c == state of colour c in the copy above node v: its parent's, from `base` on, or the top copy's own
-- Recoloured successors .. v == the copy of node v and its rows, where `successors` has the states that those above lead to
-- AboveArgs, PutArgs, TurnArgs == what the functions need: places inside their lists
use Rattle.std.specs.Prelude.{ℕ, ◌+◌, ◌*◌, ◌≤◌, ◌<◌, ◌≡◌, cond, List, eqb, length, get_or, take}
use Rattle.tables.specs.node_tables.Cells.{parent_cell}
use Rattle.colour_tables.specs.forests.Rows.{NextArgs}
use Rattle.colour_tables.specs.rows.Turns.{TakenTo}

pub record RowOf (k : ℕ) (f : ℕ → ℕ) (row : List ℕ) : Type 0 where
  pub long : length row ≡ 16
  pub cells : (c : ℕ) → c < k → get_or row c 0 ≡ f c

unfoldable pub above_cell : List ℕ → List ℕ → ℕ → ℕ → ℕ → ℕ → ℕ → ℕ
above_cell bytes numbers n base k v c =
    cond (eqb (v + 1) n) c (get_or bytes (base + parent_cell numbers v * k + c) 0)

pub record AboveArgs (bytes numbers : List ℕ) (n base k v : ℕ) : Type 0 where
  pub few : k ≤ 16
  pub small : v < 65536
  pub place : v * 4 + 4 ≤ length numbers
  pub room : (v + 1 ≡ n → ⊥) → base + parent_cell numbers v * k + k ≤ length bytes

pub record PutArgs (bytes : List ℕ) (at k : ℕ) : Type 0 where
  pub few : k ≤ 16
  pub room : at + k ≤ length bytes

pub record TurnArgs (successors bytes numbers : List ℕ) (n base k v : ℕ) : Type 0 where
  pub long : length successors ≡ 16
  pub small : (c : ℕ) → c < k → get_or successors c 0 < 16
  pub few : k ≤ 16
  pub at : v < n
  pub row_room : base + v * k + k ≤ length bytes
  pub next : (c : ℕ) → 0 < c → c < k → NextArgs numbers n c v

abbrev pub Recoloured : List ℕ → ℕ → ℕ → ℕ → ℕ → List ℕ → List ℕ → List ℕ → List ℕ → Type 0
Recoloured successors n base k v bytes numbers bytes' numbers' =
    TakenTo (take k successors) n (base + v * k) k v bytes numbers bytes' numbers'
