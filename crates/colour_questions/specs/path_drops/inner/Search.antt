-- A search on a given table: a climb, given by the node it ends at and the number of its moves.
--
-- next_node F o == the node that the move o leads to; the number of nodes where there is none
-- search_on F v t == the end of the climb from node v to depth t, and its moves; none where it would leave the nodes
--   or not rise
-- searched_of o == the same as the code returns it
use Rattle.std.specs.Prelude.{ℕ, length, Option as Given, Some, None}
use Rattle.std.proofs.Math.Option.{Option, none, some}
use Rattle.trees.specs.Climb.{Forest, Move, target, and_then, climb, climb_end}
use Rattle.colour_questions.specs.declared.path_drops.search.Searched.{Searched}

unfoldable pub next_node : Forest → Option Move → ℕ
next_node F none = F.nodes
next_node F (some m) = target F m

abbrev pub searching : ℕ → ℕ → Searched
searching v k = record { node = v; links = k }

unfoldable pub search_on : Forest → ℕ → ℕ → Option Searched
search_on F v t = and_then (climb F v t) (λ ms. some (searching (climb_end F v ms) (length ms)))

unfoldable pub searched_of : Option Searched → Given Searched
searched_of none = None
searched_of (some s) = Some s
