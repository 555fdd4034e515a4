-- What stops a climb.
--
-- LinkOutOfRange F == a parent or a jump of the forest F that leads outside it or, below the top, does not rise: of these values what "a value
--   read leads outside the plan .. or a climb doesn't rise" means. A tree has none (proofs/LinkRangeLaws).
use Rattle.std.specs.Prelude.{ℕ, ◌≤◌, ◌<◌}
use Rattle.trees.specs.Climb.{Forest}

pub data LinkOutOfRange (F : Forest) : Type 0 where
  jump_outside : (v : ℕ) → v < F.nodes → F.nodes ≤ F.jump v → LinkOutOfRange F
  jump_flat : (v : ℕ) → v < F.nodes → 0 < F.depth v → F.depth v ≤ F.depth (F.jump v) → LinkOutOfRange F
  parent_outside : (v : ℕ) → v < F.nodes → F.nodes ≤ F.parent v → LinkOutOfRange F
  parent_flat : (v : ℕ) → v < F.nodes → 0 < F.depth v → F.depth v ≤ F.depth (F.parent v) → LinkOutOfRange F
