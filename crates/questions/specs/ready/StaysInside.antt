-- The functions of a tree automaton stay inside its states.
--
-- StaysInside A == every value of δ and of ι is one of the states Q. Of the automaton that is read from a rule table it holds where 6 to 9
--   pass: questions/proofs/FreshLaws, rules-inside
use Rattle.std.specs.Prelude.{ℕ, ◌<◌}
use Rattle.trees.specs.Automaton.{Automaton}

pub record StaysInside (A : Automaton) : Type 0 where
  pub init : (a : ℕ) → A.ι a < A.states
  pub next : (p a q : ℕ) → A.δ p a q < A.states
