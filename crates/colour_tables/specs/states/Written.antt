-- What the pass over the states leaves.
--
-- Elsewhere n k j == number j is in none of the tables of colours 1, .. k - 1
-- CopiesFrom k step t base i .. == the nodes from i on have their copies, k bytes each from `base` on, and in each
--   colour's table their rows and landings, and no other byte and no number elsewhere is changed
--
-- Any count k of states and any steps: for words and for sets alike.
use Rattle.std.specs.Prelude.{ℕ, ◌+◌, ◌*◌, ◌≤◌, ◌<◌, ◌≡◌, List, get_or}
use Rattle.trees.specs.Tree.{Tree, size}
use Rattle.colours.specs.Copies.{copy, lands_at, falls_at}
use Rattle.colour_tables.specs.ColourCells.{colour_part}
use Rattle.colour_tables.specs.forests.Rows.{RowIs}

abbrev pub Elsewhere : ℕ → ℕ → ℕ → Type 0
Elsewhere n k j = (c v i : ℕ) → 0 < c → c < k → v < n → i < 4 → j ≡ c * (n * 4) + (v * 4 + i) → ⊥

pub record CopiesFrom (k : ℕ) (step : ℕ → ℕ → ℕ) (t : Tree) (base i : ℕ)
    (bytes numbers bytes' numbers' : List ℕ) : Type 0 where
  pub rows : (v : ℕ) → i ≤ v → v < size t → (c : ℕ) → c < k
      → get_or bytes' (base + v * k + c) 0 ≡ get_or (copy k step t v) c 0
  pub lands : (v : ℕ) → i ≤ v → v < size t → (c : ℕ) → 0 < c → c < k
      → get_or numbers' (c * (size t * 4) + (v * 4 + 3)) 0 ≡ lands_at k step t c v
  pub forests : (v : ℕ) → i ≤ v → v < size t → (c : ℕ) → 0 < c → c < k
      → RowIs t (falls_at k step t c) (colour_part (size t) c numbers') v
  pub front : (j : ℕ) → j < base → get_or bytes' j 0 ≡ get_or bytes j 0
  pub rest : (j : ℕ) → base + size t * k ≤ j → get_or bytes' j 0 ≡ get_or bytes j 0
  pub kept : (j : ℕ) → Elsewhere (size t) k j → get_or numbers' j 0 ≡ get_or numbers j 0
