-- Rows of a table of states compared with what they have to be.
--
-- every n f == whether f holds of every number below n
-- row_equals s b v f == whether node v's map in table b of s states is f
-- near_entry table base stride q == the rule's value for state q, where the values begin at `base`, `stride` apart
use Rattle.std.specs.Prelude.{ℕ, zero, suc, ◌+◌, ◌*◌, Bool, true, ◌&&◌, List, eqb, get_or}
use Rattle.tables.specs.StateCells.{map_cell}

unfoldable pub every : ℕ → (ℕ → Bool) → Bool
every zero f = true
every (suc n) f = every n f && f n

abbrev pub row_equals : ℕ → List ℕ → ℕ → (ℕ → ℕ) → Bool
row_equals s b v f = every s (λ q. eqb (map_cell s b v q) (f q))

abbrev pub near_entry : List ℕ → ℕ → ℕ → ℕ → ℕ
near_entry table base stride q = get_or table (base + q * stride) 0
