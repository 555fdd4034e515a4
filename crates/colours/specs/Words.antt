-- Branch questions by colours: the instance for words.
--
-- word_step B t v q == the state after state q reads the label of node v
-- above_of t u == the copy above node u: its parent's, or the top copy
-- with_upper B t u l == the descent of the question whose word runs from u down to l, both included
-- below_upper B t u l == the one whose word leaves out u: the plain call
-- word_state B t l d == the state that such a descent gives
--
-- Both are asked for a node l at u or below it. State 0 is the start; its colour is looked up in the copy where the
-- word begins.
use Rattle.std.specs.Prelude.{ℕ, ◌+◌, cond, eqb, get_or}
use Rattle.std.proofs.Math.Option.{Option, none, some}
use Rattle.trees.specs.Tree.{Tree, size, label_at}
use Rattle.trees.specs.Automaton.{WordAutomaton}
use Rattle.trees.specs.Numbering.{parent}
use Rattle.colours.specs.Colouring.{place_of}
use Rattle.colours.specs.Copies.{copy, copy_above}
use Rattle.colours.specs.Descents.{Place, Descent, descend, colour_table_of}

abbrev pub word_step : WordAutomaton → Tree → ℕ → ℕ → ℕ
word_step B t v q = B.step q (label_at t v)

unfoldable pub above_of : Tree → ℕ → Place
above_of t u = cond (eqb (u + 1) (size t)) none (some (parent t u))

unfoldable pub colour_above : WordAutomaton → Tree → ℕ → ℕ
colour_above B t u = place_of 0 (copy_above B.states (word_step B t) t u)

unfoldable pub colour_here : WordAutomaton → Tree → ℕ → ℕ
colour_here B t u = place_of 0 (copy B.states (word_step B t) t u)

unfoldable pub with_upper : WordAutomaton → Tree → ℕ → ℕ → Option Descent
with_upper B t u l =
    descend (colour_table_of B.states (word_step B t) t) (colour_above B t u) (above_of t u) l (colour_above B t u)

unfoldable pub below_upper : WordAutomaton → Tree → ℕ → ℕ → Option Descent
below_upper B t u l =
    descend (colour_table_of B.states (word_step B t) t) (colour_here B t u) (some u) l (colour_here B t u)

abbrev pub word_state : WordAutomaton → Tree → ℕ → Descent → ℕ
word_state B t l d = get_or (copy B.states (word_step B t) t l) d.colour 0
