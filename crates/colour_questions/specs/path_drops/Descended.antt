-- A descent on any numbers of the colours, as the code gives it.
--
-- start_place top z == where it begins: the copy of node z, or the top copy
-- DescendArgs n c nums z l == n nodes within the limit, z and l among them, colour c among 16, and room for the tables
--   up to colour c's
-- reached c d k == the end of a descent with colour c, d drops and k links; descended_of o == the answer for a descent o
use Rattle.std.specs.Prelude.{ℕ, ◌+◌, ◌*◌, ◌≤◌, ◌<◌, Bool, true, false, List, length, Option as Given, Some, None}
use Rattle.std.proofs.Math.Option.{Option, none, some}
use Rattle.colours.specs.Descents.{Place, Descent, drops, links}
use Rattle.colour_questions.specs.declared.path_drops.descend.Descended.{Descended}

abbrev pub start_place : Bool → ℕ → Place
start_place true z = none
start_place false z = some z

pub record DescendArgs (n c : ℕ) (nums : List ℕ) (z l : ℕ) : Type 0 where
  pub most : n ≤ 65535
  pub few : c ≤ 15
  pub room : c * (n * 4) + n * 4 ≤ length nums
  pub upper : z < n
  pub lower : l < n

abbrev pub reached : ℕ → ℕ → ℕ → Descended
reached c d k = record { colour = c; drops = d; links = k }

unfoldable pub descended_of : Option Descent → Given Descended
descended_of none = None
descended_of (some d) = Some (reached d.colour (drops d) (links d))
