-- Sets of states, or of labels, as numbers.
--
-- bit b == 1 for yes, 0 for no
-- set_of n p == the number of the set of those of n states for which p holds: 2 to the power k for each member k
-- member T k == whether state k is in the set numbered T
use Rattle.std.specs.Prelude.{ℕ, zero, suc, ◌+◌, ◌*◌, ◌/◌, ◌%◌, ◌^◌, Bool, true, false, eqb}

abbrev pub bit : Bool → ℕ
bit true = 1
bit false = 0

-- "sets of states, numbered by adding 2 to the power k for each member k" (document 02, S-14)
unfoldable pub set_of : ℕ → (ℕ → Bool) → ℕ
set_of zero p = 0
set_of (suc n) p = bit (p n) * 2 ^ n + set_of n p

unfoldable pub member : ℕ → ℕ → Bool
member T k = eqb (T / 2 ^ k % 2) 1
