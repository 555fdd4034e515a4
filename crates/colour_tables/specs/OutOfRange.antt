-- Values of the tables of colours that lead outside the plan, or not upward, or to no fall.
--
-- ColourOutOfRange n k T == such a value of the tables T of n nodes and k colours: what stops a descent. Tables as
--   built have none: on them every descent ends (proofs/Theorems of colour_questions/path_drops)
--
-- "18 means that a value read leads outside the plan, the states or the labels, or a climb doesn't rise."
use Rattle.std.specs.Prelude.{ℕ, ◌≤◌, ◌<◌, ◌≡◌, ◌⊎◌}
use Rattle.trees.specs.LinkOutOfRange.{LinkOutOfRange}
use Rattle.colours.specs.Descents.{ColourTable}

pub data ColourOutOfRange (n k : ℕ) (T : ColourTable) : Type 0 where
  -- a parent or a jump among the nodes where colour c falls
  link : (c : ℕ) → 0 < c → c < k → LinkOutOfRange (T.forest c) → ColourOutOfRange n k T
  -- a link leads to node v, and colour c does not fall there
  level : (c w v : ℕ) → 0 < c → c < k → w < n → 0 < (T.forest c).depth w
      → (v ≡ (T.forest c).parent w) ⊎ (v ≡ (T.forest c).jump w) → c ≤ T.lands c v → ColourOutOfRange n k T
