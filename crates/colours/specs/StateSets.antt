-- Climbs by colours over sets of states: the instance for rule tables.
--
-- set_of, member == sets of states as numbers (crate state_sets, StateSets)
-- set_step A t v T == the states at node v that lead into the set T at its parent; into the root's copy nothing
--   changes, so the root's own copy is the top copy
-- target_colour rows c x == the colour of the set {x} in the copy of node c, where rows are the copies of the nodes
-- set_at rows w d == the set that a descent d to node w ends with
-- Tried == the target state that was found, and the links of each search of all trials
-- try_from T rows c w q f x == on any table and copies: the target states at node c from x on, f of them, until the
--   set that one leads down to at w holds q; none (18) where no colour has the set {x}, a descent has none, or no set
--   holds q
-- try_targets A t c w q == the same by the tree's own colours, all target states in rising order
use Rattle.std.specs.Prelude.{ℕ, zero, suc, ◌+◌, ◌^◌, cond, List, ◌++◌, ltb, eqb, length, get_or}
use Rattle.std.proofs.Math.Option.{Option, none, some}
use Rattle.trees.specs.Tree.{Tree, size}
use Rattle.trees.specs.Automaton.{Automaton}
use Rattle.trees.specs.Climb.{and_then}
use Rattle.trees.specs.Tables.{step_up}
unfoldable pub use Rattle.state_sets.specs.StateSets.{set_of, member}
use Rattle.colours.specs.Colouring.{place_of}
use Rattle.colours.specs.Copies.{copy, drops_down}
use Rattle.colours.specs.Descents.{ColourTable, Descent, descend, colour_table_of}

-- "a step down takes a set to the states at the child that lead into it"
unfoldable pub set_step : Automaton → Tree → ℕ → ℕ → ℕ
set_step A t v T = cond (eqb (v + 1) (size t)) T (set_of A.states (λ s. member T (step_up A t v s)))

abbrev pub set_count : Automaton → ℕ
set_count A = 2 ^ A.states

abbrev pub set_table : Automaton → Tree → ColourTable
set_table A t = colour_table_of (set_count A) (set_step A t) t

abbrev pub set_copies : Automaton → Tree → ℕ → List ℕ
set_copies A t = copy (set_count A) (set_step A t) t

abbrev pub target_colour : (ℕ → List ℕ) → ℕ → ℕ → ℕ
target_colour rows c x = place_of (2 ^ x) (rows c)

abbrev pub set_at : (ℕ → List ℕ) → ℕ → Descent → ℕ
set_at rows w d = get_or (rows w) d.colour 0

pub record Tried : Type 0 where
  pub state : ℕ
  pub searches : List ℕ

abbrev pub tried : ℕ → List ℕ → Tried
tried x ls = record { state = x; searches = ls }

abbrev pub after_trial : List ℕ → Option Tried → Option Tried
after_trial ls none = none
after_trial ls (some r) = some (tried r.state (ls ++ r.searches))

-- one trial, of target state x, with what comes after it
unfoldable pub try_one : ColourTable → (ℕ → List ℕ) → ℕ → ℕ → ℕ → ℕ → Option Tried → Option Tried
try_one T rows c w q x later =
    cond (ltb (target_colour rows c x) (length (rows c)))
    (and_then (descend T (target_colour rows c x) (some c) w (target_colour rows c x)) (λ d.
    cond (member (set_at rows w d) q) (some (tried x d.searches)) (after_trial d.searches later)))
    none

-- from target state x on, f of them
unfoldable pub try_from : ColourTable → (ℕ → List ℕ) → ℕ → ℕ → ℕ → ℕ → ℕ → Option Tried
try_from T rows c w q zero x = none
try_from T rows c w q (suc f) x = try_one T rows c w q x (try_from T rows c w q f (suc x))

-- the drops of the trial of target state x: the places on the k steps from node c down to node w where its colour falls
unfoldable pub trial_drops : Automaton → Tree → ℕ → ℕ → ℕ → ℕ → ℕ
trial_drops A t c w k x = drops_down (set_count A) (set_step A t) t w k (target_colour (set_copies A t) c x)

-- m target states from x on
unfoldable pub drops_from : (ℕ → ℕ) → ℕ → ℕ → ℕ
drops_from f x zero = 0
drops_from f x (suc m) = f x + drops_from f (suc x) m

-- "the state its climb gives is found by trying target states in rising order up to it"
unfoldable pub try_targets : Automaton → Tree → ℕ → ℕ → ℕ → Option Tried
try_targets A t c w q = try_from (set_table A t) (set_copies A t) c w q A.states 0
