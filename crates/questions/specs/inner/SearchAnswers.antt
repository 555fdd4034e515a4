-- What a search for a lowest common ancestor returns.
--
-- meeting_of o == the code's answer for the node o; Outside for none
-- target_of F m == its answer for a move m of forest F: the node that it leads to
-- rising_meeting F v u == its answer for a move from v to u: u, where it is a node of F and less deep than v
use Rattle.std.specs.Prelude.{ℕ, cond, ◌&&◌, nat_lt}
use Rattle.std.proofs.Math.Option.{Option, none, some}
use Rattle.trees.specs.Climb.{Forest, Move, target}
use Rattle.questions.specs.declared.search.Meeting.{Meeting}
use Rattle.questions.specs.declared.search.Meeting.TheVariants.{At, Outside}

abbrev pub meeting_of : Option ℕ → Meeting
meeting_of none = Outside
meeting_of (some x) = At x

abbrev pub target_of : Forest → Option Move → Meeting
target_of F none = Outside
target_of F (some m) = At (target F m)

abbrev pub rising_meeting : Forest → ℕ → ℕ → Meeting
rising_meeting F v u = cond (nat_lt u F.nodes && nat_lt (F.depth u) (F.depth v)) (At u) Outside
