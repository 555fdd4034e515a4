-- The sets of states that lead into a set, as the passes down look them up in a rule table.
--
-- right_set, left_set == the states of the right, and of the left, child of a node of label a that lead into the set c
-- marked_set mk s == the marked states: a mark of 1 is in the set {1}
-- SetArgs inn s k p a q == of states p and q and label a: all products fit, and the positions are in the inner states
-- MarkArgs mk s == what the marked states need
use Rattle.std.specs.Prelude.{ℕ, ◌+◌, ◌*◌, ◌≤◌, ◌<◌, List}
use Rattle.state_sets.specs.inner.Gather.{gathered_from, GatherArgs}

abbrev pub right_set : List ℕ → ℕ → ℕ → ℕ → ℕ → ℕ → ℕ
right_set inn s k p a c = gathered_from inn ((p * k + a) * s) 1 c s

abbrev pub left_set : List ℕ → ℕ → ℕ → ℕ → ℕ → ℕ → ℕ
left_set inn s k a q c = gathered_from inn (a * s + q) (k * s) c s

abbrev pub marked_set : List ℕ → ℕ → ℕ
marked_set mk s = gathered_from mk 0 1 2 s

pub record SetArgs (inn : List ℕ) (s k p a q : ℕ) : Type 0 where
  pub few : s ≤ 16
  pub row : p * k + a < 65536
  pub row_at : (p * k + a) * s < 65536
  pub column_at : a * s + q < 65536
  pub column_step : k * s < 65536
  pub labels_at : p * k * s + q < 65536
  pub right : GatherArgs inn ((p * k + a) * s) 1 s
  pub left : GatherArgs inn (a * s + q) (k * s) s
  pub labels : GatherArgs inn (p * k * s + q) s k

pub record MarkArgs (mk : List ℕ) (s : ℕ) : Type 0 where
  pub few : s ≤ 16
  pub marks : GatherArgs mk 0 1 s
