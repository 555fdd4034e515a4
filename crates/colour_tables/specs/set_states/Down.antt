-- One step down over sets of states, as the code has it.
--
-- down_set ls b inn st n s k v T == the set at node v of n that leads into the set T above it; T itself at the root
-- DownArgs row .. count v == `count` sets in a row of 16; below the root what the states at v's parent need
--
-- "a step down takes a set to the states at the child that lead into it".
use Rattle.std.specs.Prelude.{ℕ, ◌+◌, ◌≤◌, ◌<◌, ◌≡◌, cond, List, eqb, length, get_or}
use Rattle.tables.specs.inner.Maps.{near_value}
use Rattle.colours.specs.StateSets.{set_of, member}
use Rattle.colour_tables.specs.set_states.StatesAbove.{UpArgs}

unfoldable pub down_set : List ℕ → List ℕ → List ℕ → List ℕ → ℕ → ℕ → ℕ → ℕ → ℕ → ℕ
down_set ls b inn st n s k v T =
    cond (eqb (v + 1) n) T (set_of s (λ x. member T (near_value ls b inn s k st v x)))

pub record DownArgs (row ls b inn st : List ℕ) (n s k count v : ℕ) : Type 0 where
  pub long : length row ≡ 16
  pub few : count ≤ 16
  pub small : v < 65536
  pub inner_below : (j : ℕ) → get_or inn j 0 < s
  pub above : (v + 1 ≡ n → ⊥) → UpArgs ls b inn st s k v
