-- A table of states by equations between neighbouring nodes.
--
-- step_cells A t b v q == the state at the parent of v if the state at v is q, with the sibling's state by table b
-- LocalStates A t b == each node's state byte follows by A's rules from its label and its children's state bytes
-- LocalMaps A t b == each node's map follows from that step and the maps of its parent and of its parent's jump
--
-- That these equations leave one table only is proved in proofs/LocalLaws.
use Rattle.std.specs.Prelude.{ℕ, ◌+◌, ◌-◌, ◌<◌, ◌≡◌, cond, List, eqb}
use Rattle.trees.specs.Tree.{Tree, size, kind_at, label_at}
use Rattle.trees.specs.Automaton.{Automaton}
use Rattle.trees.specs.Numbering.{sub, parent}
use Rattle.trees.specs.Jumps.{jump}
use Rattle.tables.specs.StateCells.{state_cell, map_cell}

-- a right child v comes just before its parent, and its left sibling just before v's subtree; a left child's sibling
-- comes just before their parent
unfoldable pub step_cells : Automaton → Tree → List ℕ → ℕ → ℕ → ℕ
step_cells A t b v q =
    cond (eqb (v + 1) (parent t v))
    (A.δ (state_cell A.states b (v - size (sub t v))) (label_at t (parent t v)) q)
    (A.δ q (label_at t (parent t v)) (state_cell A.states b (parent t v - 1)))

pub record LocalStates (A : Automaton) (t : Tree) (b : List ℕ) : Type 0 where
  pub at_leaf : (v : ℕ) → v < size t → kind_at t v ≡ 0 → state_cell A.states b v ≡ A.ι (label_at t v)
  pub at_inner : (v : ℕ) → v < size t → (kind_at t v ≡ 0 → ⊥)
      → state_cell A.states b v
      ≡ A.δ (state_cell A.states b (v - 1 - size (sub t (v - 1)))) (label_at t v) (state_cell A.states b (v - 1))

pub record LocalMaps (A : Automaton) (t : Tree) (b : List ℕ) : Type 0 where
  pub at_root : (v q : ℕ) → v + 1 ≡ size t → q < A.states → map_cell A.states b v q ≡ q
  pub near : (v q : ℕ) → v + 1 < size t → jump t v ≡ parent t v → q < A.states
      → map_cell A.states b v q ≡ step_cells A t b v q
  pub far : (v q : ℕ) → v + 1 < size t → (jump t v ≡ parent t v → ⊥) → q < A.states
      → map_cell A.states b v q
      ≡ map_cell A.states b (jump t (parent t v)) (map_cell A.states b (parent t v) (step_cells A t b v q))
