-- Sets of states in a byte, as the code has them.
--
-- JoinArgs r b i == b is a bit, and the set r has no member from i on
-- ImageArgs above == at most four states, each below 8: so a set of them is below 16
-- SuccessorsBy above row k successors == the first k of `successors` are the sets of the states that `above` leads into those of the row
--
-- "sets of states, numbered by adding 2 to the power k for each member k": set_of, member (crate colours, StateSets).
use Rattle.std.specs.Prelude.{ℕ, ◌^◌, ◌≤◌, ◌<◌, ◌≡◌, List, length, get_or}
use Rattle.colours.specs.StateSets.{set_of, member}

pub record JoinArgs (r b i : ℕ) : Type 0 where
  pub one : b < 2
  pub few : i < 4
  pub low : r < 2 ^ i

pub record ImageArgs (above : List ℕ) : Type 0 where
  pub few : length above ≤ 4
  pub below : (x : ℕ) → get_or above x 0 < 8

pub record SuccessorsBy (above row : List ℕ) (k : ℕ) (successors : List ℕ) : Type 0 where
  pub long : length successors ≡ 16
  pub cells : (c : ℕ) → c < k → get_or successors c 0 ≡ set_of (length above) (λ x. member (get_or row c 0) (get_or above x 0))
