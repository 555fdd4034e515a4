-- Values that lead outside the plan, the states or the labels.
--
-- RuleColoursOutOfRange L vs bs == such a value in the inputs of a rule question by colours: what 18 means
--
-- "18 means that a value read leads outside the plan, the states or the labels, or a climb doesn't rise."
use Rattle.std.specs.Prelude.{ℕ, ◌≤◌, ◌<◌, ◌^◌, ◌≡◌, false, List, [], length}
use Rattle.std.proofs.Math.Option.{some}
use Rattle.questions.specs.OutOfRange.{PartOutOfRange}
use Rattle.colours.specs.Descents.{Descent, descend}
use Rattle.colours.specs.StateSets.{member, target_colour, set_at}
use Rattle.colour_tables.specs.OutOfRange.{ColourOutOfRange}
use Rattle.colour_questions.specs.parts.Part.{ColourView, sides_in}

pub data RuleColoursOutOfRange (L : ColourView) (vs bs : List ℕ) : Type 0 where
  -- as in a question of the session
  part : PartOutOfRange L.view [] vs bs → RuleColoursOutOfRange L vs bs
  -- outside the plan, not rising, or to no fall, in the tables of the colours
  colour : ColourOutOfRange L.view.n (2 ^ L.view.s) (sides_in L).table → RuleColoursOutOfRange L vs bs
  -- outside the states: a copy in which no colour has the set of target state x alone ..
  target : (c x : ℕ) → c < L.view.n → x < L.view.s
      → length ((sides_in L).copies c) ≤ target_colour (sides_in L).copies c x → RuleColoursOutOfRange L vs bs
  -- .. or sets at node w of which none, for no target state at node c, holds state q
  unheld : (c w q : ℕ) → c < L.view.n → w < L.view.n → q < L.view.s
      → ((x : ℕ) → x < L.view.s → (d : Descent)
      → descend (sides_in L).table (target_colour (sides_in L).copies c x) (some c) w (target_colour (sides_in L).copies
      c x) ≡ some d
      → member (set_at (sides_in L).copies w d) q ≡ false)
      → RuleColoursOutOfRange L vs bs
