-- Propositions of claims/proofs/FurtherStatements.
--
-- ClimbTo t w to == the climb from node w to depth to: it exists, and its moves, its end, their number and its ceiling
-- ClimbTakes t w to n == it makes n moves
-- RootsReady t vs l == the list l is the ready set of the listed nodes vs and the root: exactly its members, each once
--   and rising
-- PartOf w t x == node x is in the part of exactly one member
use Rattle.std.specs.Prelude.{ℕ, ◌-◌, ◌*◌, ◌≤◌, ◌≡◌, Bool, ◌↔◌, length}
use mathlib.Core.List.{List, [], ◌∷◌, ◌++◌, Memᴰ}
use Rattle.std.proofs.Math.Option.{some}
use Rattle.list_laws.specs.Tests.{holds}
use Rattle.trees.specs.Tree.{Tree, size, height}
use Rattle.trees.specs.Numbering.{depth, ancestor}
use Rattle.trees.specs.Climb.{Move, forest_of, climb, climb_end, move_count, digits}
use Rattle.questions.specs.ready.Ready.{Ready}
use Rattle.questions.specs.ready.Members.{Rising}
use Rattle.questions.specs.ready.Partition.{InPart}

pub record ClimbTo (t : Tree) (w to : ℕ) : Type 0 where
  pub moves : List Move
  pub found : climb (forest_of t) w to ≡ some moves
  pub ends : climb_end (forest_of t) w moves ≡ ancestor t w (depth t w - to)
  pub count : length moves ≡ move_count (depth t w) to
  pub few : length moves ≤ 3 * digits (height t)

abbrev pub ClimbTakes : Tree → ℕ → ℕ → ℕ → Type 0
ClimbTakes t w to n = (ms : List Move) × (climb (forest_of t) w to ≡ some ms) × (length ms ≡ n)

pub record RootsReady (t : Tree) (vs l : List ℕ) : Type 0 where
  pub members : (v : ℕ) → Memᴰ v l ↔ Ready (λ x. holds x vs) t v
  pub rising : Rising 0 l
  pub last : (l₀ : List ℕ) × (l ≡ l₀ ++ ((size t - 1) ∷ []))

pub record PartOf (w : ℕ → Bool) (t : Tree) (x : ℕ) : Type 0 where
  pub member : ℕ
  pub has : InPart w t member x
  pub only : (u : ℕ) → InPart w t u x → u ≡ member
