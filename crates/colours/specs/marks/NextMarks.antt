-- The highest marked node of a path, as a climb finds it.
--
-- NextMark t m l n to == among the n nodes from l upward in the tree t: the climb from the lowest node marked by m, at l or
--   above, to the depth `to` ends at the highest marked of the n
use Rattle.std.specs.Prelude.{ℕ, suc, ◌-◌, ◌≤◌, ◌<◌, ◌≡◌, Bool, true, List, length}
use Rattle.std.proofs.Math.Option.{some}
use Rattle.trees.specs.Tree.{Tree}
use Rattle.trees.specs.Numbering.{depth, ancestor}
use Rattle.trees.specs.Climb.{Move, climb, climb_end, move_count}
use Rattle.colours.specs.marks.Marks.{marks_in, marks_at, lowest_at, marked_forest}

pub record NextMark (t : Tree) (m : ℕ → Bool) (l n to : ℕ) : Type 0 where
  pub moves : List Move
  pub found : climb (marked_forest t m) (lowest_at t m l) to ≡ some moves
  pub at : ℕ
  pub within : at < n
  pub inside : at ≤ depth t l
  pub ends : climb_end (marked_forest t m) (lowest_at t m l) moves ≡ ancestor t l at
  pub marked : m (ancestor t l at) ≡ true
  pub highest : marks_in t m (ancestor t l (suc at)) (n - suc at) ≡ 0
  pub left : marks_in t m l n ≡ suc (marks_in t m l at)
  pub count : length moves ≡ move_count (marks_at t m l - 1) to
