-- The root's set.
--
-- root_set b mk s v == the numbers after the marked states are given to node v
-- RootArgs b mk s v == what that needs
use Rattle.std.specs.Prelude.{ℕ, ◌+◌, ◌*◌, ◌<◌, List, length, get_or, set}
use Rattle.allowed.specs.inner.Sets.{marked_set, MarkArgs}

unfoldable pub root_set : List ℕ → List ℕ → ℕ → ℕ → List ℕ
root_set b mk s v = set b v (get_or b v 0 + 1048576 * marked_set mk s)

pub record RootArgs (b mk : List ℕ) (s v : ℕ) : Type 0 where
  pub inside : v < length b
  pub low : get_or b v 0 < 1048576
  pub marks : MarkArgs mk s
