-- Nodes passed over (document 02, S-7).
--
-- passed_by F w ms == how many nodes the moves ms from node w pass over, by the depths of F. 0 where they end at the
--   start's depth or below it
--
-- "how many nodes it passed over, that is the depth of its start less the depth of its end": the end counts, the start
-- does not, so a climb of links to the parent alone passes over one node for each link.
use Rattle.std.specs.Prelude.{ℕ, ◌-◌, List}
use Rattle.trees.specs.Climb.{Forest, Move, climb_end}

abbrev pub passed_by : Forest → ℕ → List Move → ℕ
passed_by F w ms = F.depth w - F.depth (climb_end F w ms)
