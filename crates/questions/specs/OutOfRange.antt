-- Values that lead outside the plan, the states or the labels.
--
-- PartOutOfRange X qs vs bs == such a value, where a part of the list vs, bs is asked for with the states qs of the
--   roots before it: what 18 means. The inputs of "Parts of a question" have none (proofs/RuleRange).
--
-- "18 means that a value read leads outside the plan, the states or the labels, or a climb doesn't rise."
use Rattle.std.specs.Prelude.{◌≡◌, ℕ, ◌+◌, ◌*◌, ◌<◌, ◌≤◌, false, List, ◌≢◌, slice_index}
use Rattle.list_laws.specs.Tests.{all_below}
use Rattle.tables.specs.node_tables.OutOfRange.{Childless, NodeTableOutOfRange}
use Rattle.tables.specs.StateCells.{state_cell, map_cell}
use Rattle.tables.specs.Climbs.{View}
use Rattle.questions.specs.Part.{label_on}

pub data PartOutOfRange (X : View) (qs vs bs : List ℕ) : Type 0 where
  -- outside the plan, or not rising
  links : NodeTableOutOfRange X.n X.node_table → PartOutOfRange X qs vs bs
  children : (v : ℕ) → v < X.n → (slice_index X.kinds v ≢ 0) → Childless X.node_table v → PartOutOfRange X qs vs bs
  -- outside the states
  run : (v : ℕ) → v < X.n → X.s ≤ state_cell X.s X.state_table v → PartOutOfRange X qs vs bs
  map : (v q : ℕ) → v < X.n → q < X.s → X.s ≤ map_cell X.s X.state_table v q → PartOutOfRange X qs vs bs
  leaf : (a : ℕ) → a < X.k → X.s ≤ slice_index X.leaves a → PartOutOfRange X qs vs bs
  rule : (p a q : ℕ) → p < X.s → a < X.k → q < X.s → X.s ≤ slice_index X.inner ((p * X.k + a) * X.s + q) → PartOutOfRange X qs vs bs
  handled : all_below X.s qs ≡ false → PartOutOfRange X qs vs bs
  -- outside the labels
  label : (v : ℕ) → v < X.n → X.k ≤ slice_index X.labels v → PartOutOfRange X qs vs bs
  changed : (v : ℕ) → v < X.n → X.k ≤ label_on X vs bs v → PartOutOfRange X qs vs bs
